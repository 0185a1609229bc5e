use Rattle.std.proofs.Common.{refl, sym, ap}
use Rattle.heap_values.specs.declared.value.Value.TheVariants as value
use Rattle.js_evaluation.specs.Objects.{found_value}
use Rattle.heap_steps.specs.Works.{state_with}
use Rattle.heap_steps.proofs.Chains.{forgets, as_part}
use Rattle.heap_steps.proofs.properties.get_from.Goals as goal

pub returns-in-None : goal.returns-in-None
returns-in-None c = rw c.in-None.is c.throw_type_error.ensures

pub returns-in_err-found-in-Some : goal.returns-in_err-found-in-Some
returns-in_err-found-in-Some c = forgets _ _ c.from_residual.ensures.1 refl

pub returns-in_ok-found-in-Some : goal.returns-in_ok-found-in-Some
returns-in_ok-found-in-Some c = rw c.in-Some.is (as_part _ (λ after fuel beside. ap (λ f. found_value value.Undefined f c.args.place after (state_with c.args.heap.now fuel beside)) (sym c.in_ok-found-in-Some.ensures)) (c.found_value.ensures _))
