-- What is left of a `switch` (ECMA-262 5.1, section 12.11): a break ends it.
use Rattle.std.specs.Prelude.{List, Result, Ok, Err}
use Rattle.js_tree.specs.Tree.{Clauses, FunctionTree, Statements}
use Rattle.heap_values.specs.declared.value.Value.{Value}
use Rattle.heap_values.specs.declared.value.Value.TheVariants as value
use Rattle.run_trees.specs.declared.abrupt.Abrupt.TheVariants as ending
use Rattle.run_trees.specs.Runs.{◌>>◌}
use Rattle.js_evaluation.specs.State.{Does, Stop}
use Rattle.js_evaluation.specs.Objects.{Context}
use Rattle.js_frames.specs.RestOf.{in_switch}
use Rattle.js_evaluation.specs.Statements as rule
use Rattle.js_evaluation.specs.Parts.{Within}
use Rattle.js_evaluation.specs.Scoping.{by_slots}

-- the end of a `switch` within which a part ends abruptly
abbrev pub switch_end : Stop → Result Value Stop
switch_end (ending.Thrown thrown) = Err (ending.Thrown thrown)
switch_end (ending.Returned v) = Err (ending.Returned v)
switch_end (ending.Broken target) = Ok value.Undefined
switch_end (ending.Continued target) = Err (ending.Continued target)

module _ (functions : List FunctionTree) (go : Within) (cx : Context) where
  abbrev pub from_match : Value → Clauses → Clauses → Does Value
  from_match v all left = λ after. rule.from_match by_slots functions go cx v all left (in_switch functions go cx after)

  abbrev pub from_default : Clauses → Does Value
  from_default all = λ after. rule.from_default by_slots functions go cx all (in_switch functions go cx after)

  abbrev pub clauses_from : Clauses → Does Value
  clauses_from all = λ after. rule.clauses_from by_slots functions go cx all (in_switch functions go cx after)

  abbrev pub body_from : Statements → Clauses → Does Value
  body_from body rest = λ after. (rule.statements_from by_slots functions go cx body >> rule.clauses_from by_slots functions go cx rest) (in_switch functions go cx after)
