-- Statements that do nothing when they are executed.
use Rattle.std.proofs.Common.{Ok, refl, arith}
use Rattle.js_tree.specs.declared.place.Place.{Place}
use Rattle.js_tree.specs.declared.bound.BoundName.{BoundName}
use Rattle.js_tree.specs.declared.expression.FunctionPart.{FunctionPart}
use Rattle.js_tree.specs.declared.expression.FunctionPart.TheVariants as part
use Rattle.js_tree.specs.declared.statement.StatementNode.TheVariants as of_node
use Rattle.js_tree.specs.View.{statement_of}
use Rattle.heap_values.specs.declared.value.Value.TheVariants as value
use Rattle.js_evaluation.specs.Statements.{statement_node}
use Rattle.js_evaluation.specs.Statements as rule
use Rattle.js_evaluation.specs.Scoping.{by_slots}
use Rattle.js_machine.specs.declared.machine.Machine.{Machine}
use Rattle.js_machine.specs.declared.now.Now.TheVariants as now
use Rattle.js_machine.specs.Moves.{Moves, at}

-- a function declaration: its function was made before the first statement
pub declares : (m : Machine) (place : Place) (x : BoundName) (f : FunctionPart)
    → Moves (at m (rule.statement_node by_slots) (statement_of place (of_node.Function x f))) m (Ok (now.Back (Ok value.Undefined))) m
unfolding statement_node
declares m place x (part.Whole f) = record { goes = λ last. refl; light = omega arith }
declares m place x (part.Numbered n) = record { goes = λ last. refl; light = omega arith }
