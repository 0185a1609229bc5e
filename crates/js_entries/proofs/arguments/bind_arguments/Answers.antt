use Rattle.std.proofs.Common.{◌∙◌, refl, sym}
use Rattle.heap_steps.proofs.Chains.{forgets}
use Rattle.js_entries.proofs.Steps.{none_bound, own_bound, some_bound}
use Rattle.js_tree.specs.Tree.{statements_of}
use Rattle.js_evaluation.specs.Entries.{has_own_arguments}
use Rattle.js_entries.proofs.arguments.bind_arguments.Goals as goal

pub returns-in_err-arguments_slot : goal.returns-in_err-arguments_slot
returns-in_err-arguments_slot c = forgets _ _ c.from_residual.ensures.1 refl

pub returns-in-None : goal.returns-in-None
returns-in-None c = none_bound (has_own_arguments c.args.function.now.parameters (statements_of c.args.function.now.body)) c.args.scope c.args.place c.args.function.now.names c.args.arguments.now _ (sym c.in-None.is ∙ rw c.as_slice.ensures at c.in_ok-arguments_slot.ensures)

pub returns-then-has_own_arguments : goal.returns-then-has_own_arguments
returns-then-has_own_arguments c = own_bound (has_own_arguments c.args.function.now.parameters (statements_of c.args.function.now.body)) c.args.scope c.args.place c.args.function.now.names c.args.arguments.now _ (sym c.has_own_arguments.ensures ∙ c.if-has_own_arguments.true)

pub returns-else-has_own_arguments : goal.returns-else-has_own_arguments
returns-else-has_own_arguments c = some_bound (has_own_arguments c.args.function.now.parameters (statements_of c.args.function.now.body)) c.args.scope c.args.place c.args.function.now.names c.args.arguments.now _ _ _ _ (sym c.has_own_arguments.ensures ∙ c.if-has_own_arguments.false) (sym c.in-Some.is ∙ rw c.as_slice.ensures at c.in_ok-arguments_slot.ensures) c.write_arguments.ensures
