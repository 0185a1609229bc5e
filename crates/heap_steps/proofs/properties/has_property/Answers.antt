use Rattle.std.proofs.Common.{refl, sym, ap, ◌∙◌}
use Rattle.js_evaluation.specs.Objects.{is_there}
use Rattle.heap_steps.specs.Works.{state_with}
use Rattle.heap_steps.proofs.Chains.{forgets}
use Rattle.heap_steps.proofs.properties.has_property.Goals as goal

pub returns-in_err-get : goal.returns-in_err-get
returns-in_err-get c = forgets _ _ c.from_residual.ensures.1 refl

pub returns-in-Absent : goal.returns-in-Absent
returns-in-Absent c = record { is = λ after fuel beside. ap (λ f. is_there f c.args.place after (state_with c.args.heap.now fuel beside)) (sym c.in_ok-get.ensures ∙ c.in-Absent.is) }

pub returns-in-Value : goal.returns-in-Value
returns-in-Value c = record { is = λ after fuel beside. ap (λ f. is_there f c.args.place after (state_with c.args.heap.now fuel beside)) (sym c.in_ok-get.ensures ∙ c.in-Value.is) }

pub returns : goal.returns
returns c = record { is = λ after fuel beside. ap (λ f. is_there f c.args.place after (state_with c.args.heap.now fuel beside)) (sym c.in_ok-get.ensures ∙ c.in-LeftOut.is) }
