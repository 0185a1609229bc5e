-- Assignments to a reference (ECMA-262 5.1, section 11.13).
use Rattle.std.specs.Prelude.{List, Option}
use Rattle.js_tree.specs.declared.place.Place.{Place}
use Rattle.js_tree.specs.declared.operators.BinaryOp.{BinaryOp}
use Rattle.js_tree.specs.Tree.{ExpressionTree, FunctionTree}
use Rattle.heap_values.specs.declared.value.Value.{Value}
use Rattle.run_trees.specs.Runs.{pure, ◌>>=◌, ◌>>◌}
use Rattle.js_evaluation.specs.State.{Does}
use Rattle.js_evaluation.specs.Objects.{Context}
use Rattle.js_evaluation.specs.Expressions as rule
use Rattle.js_evaluation.specs.Parts.{Reference, Within}
use Rattle.js_evaluation.specs.Scoping.{by_slots}

module _ (functions : List FunctionTree) (go : Within) (cx : Context) where
  -- the value, by the operator of the assignment, and then the write
  abbrev pub assigned_to : Place → Reference → Option BinaryOp → ExpressionTree → Does Value
  assigned_to place r op e = rule.assigned_with by_slots functions go cx place r op e >>= (λ v. rule.write by_slots cx r v place >> pure v)
