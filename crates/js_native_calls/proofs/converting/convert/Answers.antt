use Rattle.std.proofs.Common.{refl, sym, ◌∙◌}
use Rattle.js_machine.proofs.Steps.{forgets}
use Rattle.js_native_calls.proofs.Methods.{get_stops, called_method, next_method}
use Rattle.js_native_calls.proofs.converting.convert.Goals as goal

pub loop-name-init : goal.loop-name-init
loop-name-init c = (λ w r m k. k, refl)

pub returns-in_err-name : goal.returns-in_err-name
returns-in_err-name c = forgets _ _ c.from_residual.ensures.1 refl

pub returns-in_err-method : goal.returns-in_err-method
returns-in_err-method c = c.loop-name.invariant.0 c.args.wanted _ _ (rw c.in-Some.ensures (get_stops c.loop-name.machine c.in-Some.methods c.args.object c.args.place c.args.wanted _ _ _ _ c.from_residual-in_err-method.ensures.1 (rw c.in_ok-name.ensures at c.in_err-method.ensures)))

pub loop-name-preserved : goal.loop-name-preserved
loop-name-preserved c = (λ w r m k. c.loop-name.invariant.0 w r m (rw c.in-Some.ensures (next_method c.loop-name.machine c.in-Some.methods c.args.object c.args.place w _ _ _ (rw c.in_ok-name.ensures at c.in_ok-method.ensures) r m (sym c.callable.ensures ∙ c.in-None.is) k)), c.loop-name.invariant.1)

pub returns-in-Some-callable : goal.returns-in-Some-callable
returns-in-Some-callable c = c.loop-name.invariant.0 c.args.wanted _ _ (rw c.in-Some.ensures (called_method c.loop-name.machine c.in-Some.methods c.args.object c.args.place c.args.wanted _ _ _ (rw c.in_ok-name.ensures at c.in_ok-method.ensures) _ _ _ (sym c.callable.ensures ∙ c.in-Some-callable.is) (rw (c.new-arguments.ensures, c.loop-name.invariant.1) at c.call.ensures)))

pub returns : goal.returns
returns c = c.loop-name.invariant.0 c.args.wanted _ _ (rw c.in_default.ensures c.type_error.ensures)
