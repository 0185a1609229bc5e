-- What is left of a `try` (ECMA-262 5.1, section 12.14).
use Rattle.std.specs.Prelude.{List, Result}
use Rattle.js_tree.specs.declared.bound.BoundName.{BoundName}
use Rattle.js_tree.specs.declared.place.Place.{Place}
use Rattle.js_tree.specs.Tree.{FunctionTree, OptionalStatement, StatementTree}
use Rattle.heap_values.specs.declared.value.Value.{Value}
use Rattle.js_evaluation.specs.declared.thrown.Thrown.{Thrown}
use Rattle.js_evaluation.specs.State.{Does, Stop}
use Rattle.js_evaluation.specs.Objects.{Context}
use Rattle.js_evaluation.specs.Statements as rule
use Rattle.js_evaluation.specs.Parts.{Within}
use Rattle.js_evaluation.specs.Scoping.{by_slots}

module _ (functions : List FunctionTree) (go : Within) (cx : Context) where
  -- the last block, where there is one, behind this end
  abbrev pub ended : OptionalStatement → Result Value Stop → Does Value
  ended last end = λ after. rule.after_last by_slots functions go cx last after end

  -- the handler, and then the last block
  abbrev pub handled : Place → BoundName → StatementTree → Thrown → OptionalStatement → Does Value
  handled place x block thrown last = λ after. rule.handled by_slots functions go cx place x block thrown (rule.after_last by_slots functions go cx last after)
