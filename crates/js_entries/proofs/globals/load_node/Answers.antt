use Rattle.std.proofs.Common.{refl}
use Rattle.js_machine.specs.Moves.{functions_of, inner}
use Rattle.heap_steps.proofs.Bounds.{by_number}
use Rattle.js_entries.proofs.Entering.{first_load_stops, second_load_stops, loads, scope_by_number}
use Rattle.js_tree.specs.Tree.{statements_of}
use Rattle.js_binding.specs.Names.{variables_of_all}
use Rattle.js_evaluation.specs.Scoping.{by_slots}
use Rattle.js_evaluation.specs.Statements.{statements_from}
use Rattle.js_entries.specs.Globals.{functions_declared, outermost, variables_declared}
use Rattle.js_evaluation.specs.Entries.{load_node}
use Rattle.js_entries.proofs.globals.load_node.Goals as goal

pub returns-in_err-declare_functions : goal.returns-in_err-declare_functions
unfolding load_node
returns-in_err-declare_functions c = first_load_stops (functions_declared (functions_of c.args.machine.now) (statements_of c.args.body.now)) (variables_declared (variables_of_all (statements_of c.args.body.now))) (statements_from by_slots (functions_of c.args.machine.now) (inner c.args.machine.now) outermost (statements_of c.args.body.now)) c.args.machine.now _ _ _ c.from_residual.ensures.1 c.in_err-declare_functions.ensures

pub returns-in_err-declare_variables : goal.returns-in_err-declare_variables
unfolding load_node
returns-in_err-declare_variables c = second_load_stops (functions_declared (functions_of c.args.machine.now) (statements_of c.args.body.now)) (variables_declared (variables_of_all (statements_of c.args.body.now))) (statements_from by_slots (functions_of c.args.machine.now) (inner c.args.machine.now) outermost (statements_of c.args.body.now)) c.args.machine.now _ _ _ c.in_ok-declare_functions.ensures _ c.from_residual-in_err-declare_variables.ensures.1 c.in_err-declare_variables.ensures

pub returns : goal.returns
unfolding load_node
returns c = let k = rw (scope_by_number _ _ c.outer-scope.ensures, by_number _ _ c.built_in.ensures) at c.statements_from.ensures in
    loads (functions_declared (functions_of c.args.machine.now) (statements_of c.args.body.now)) (variables_declared (variables_of_all (statements_of c.args.body.now))) (statements_from by_slots (functions_of c.args.machine.now) (inner c.args.machine.now) outermost (statements_of c.args.body.now)) c.args.machine.now _ _ _ c.in_ok-declare_functions.ensures _ _ _ c.in_ok-declare_variables.ensures (λ last. refl) refl k
