use Rattle.std.proofs.Common.{Ok, refl, sym, ap, ◌∙◌}
use Rattle.js_machine.proofs.Steps.{forgets, works_then, works_stops}
use Rattle.js_native_calls.proofs.Steps.{works_back}
use Rattle.run_trees.specs.Runs.{pure, ◌>>◌}
use Rattle.heap_values.specs.declared.value.Value.{Value}
use Rattle.js_evaluation.specs.State.{write_slot}
use Rattle.js_evaluation.specs.Objects.{closure}
use Rattle.object_heap.specs.Heap.{slot_written_of}
use Rattle.heap_steps.specs.Works.{state_with}
use Rattle.js_primary.proofs.functions.named_function.Goals as goal

pub returns-in_err-scope : goal.returns-in_err-scope
returns-in_err-scope c = works_stops _ _ _ _ _ _ c.from_residual.ensures.1 c.in_err-scope.ensures

pub returns-in_err-value : goal.returns-in_err-value
returns-in_err-value c = works_then _ _ _ _ _ c.in_ok-scope.ensures (works_stops (closure c.args.number c.args.arity c.in_ok-scope.scope c.args.place) (λ (f : Value). write_slot c.in_ok-scope.scope 0 f >> pure f) _ _ _ _ c.from_residual-in_err-value.ensures.1 c.in_err-value.ensures)

pub returns-in_err-named : goal.returns-in_err-named
returns-in_err-named c = forgets _ _ c.from_residual-in_err-named.ensures.1 refl

pub returns : goal.returns
returns c = works_then _ _ _ _ _ c.in_ok-scope.ensures (works_then (closure c.args.number c.args.arity c.in_ok-scope.scope c.args.place) (λ (f : Value). write_slot c.in_ok-scope.scope 0 f >> pure f) _ _ _ c.in_ok-value.ensures (works_back _ _ _ _ (record { is = λ after fuel beside. ap (λ h. after (Ok c.in_ok-value.value) (state_with h fuel beside)) (sym (c.in_ok-write_slot.ensures.after ∙ ap (λ v. slot_written_of c.closure.new.heap c.in_ok-scope.scope 0 v) c.in_ok-named.ensures)) })))
