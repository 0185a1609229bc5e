use Rattle.std.proofs.Common.{refl, sym, ap, ◌∙◌}
use Rattle.js_evaluation.specs.Objects.{get_or}
use Rattle.heap_steps.specs.Works.{state_with}
use Rattle.heap_steps.proofs.Chains.{forgets, as_part}
use Rattle.heap_steps.proofs.properties.get.Goals as goal

pub returns-in_err-value : goal.returns-in_err-value
returns-in_err-value c = forgets _ _ c.from_residual.ensures.1 refl

pub returns-in-Some : goal.returns-in-Some
returns-in-Some c = record { is = λ after fuel beside. ap (λ o. get_or o c.args.base.now c.args.name.now c.args.place after (state_with c.args.heap.now fuel beside)) (sym c.in_ok-value.ensures ∙ c.in-Some.is) }

pub returns-in-None : goal.returns-in-None
returns-in-None c = as_part _ (λ after fuel beside. ap (λ o. get_or o c.args.base.now c.args.name.now c.args.place after (state_with c.args.heap.now fuel beside)) (sym c.in_ok-value.ensures ∙ c.in-None.is)) (rw c.holder_of.ensures at c.get_from.ensures)
