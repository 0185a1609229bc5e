use Rattle.std.proofs.Common.{refl, sym, ap, ◌∙◌}
use Rattle.object_heap.specs.Heap.{found_of}
use Rattle.js_evaluation.specs.Objects.{global_value}
use Rattle.heap_steps.specs.Works.{state_with}
use Rattle.heap_steps.proofs.Bounds.{by_number}
use Rattle.heap_steps.proofs.Chains.{forgets, as_part}
use Rattle.heap_steps.proofs.names.read_global.Goals as goal

pub returns-in_err-value : goal.returns-in_err-value
returns-in_err-value c = forgets _ _ c.from_residual.ensures.1 refl

pub returns-in-Value : goal.returns-in-Value
returns-in-Value c = record { is = λ after fuel beside. ap (λ f. global_value c.args.name.now f c.args.place after (state_with c.args.heap.now fuel beside)) (sym (c.in_ok-value.ensures ∙ ap (λ id. found_of c.args.heap.now id c.args.name.now) (by_number _ _ c.built_in-global.ensures)) ∙ c.in-Value.is) }

pub returns-in-Absent : goal.returns-in-Absent
returns-in-Absent c = as_part _ (λ after fuel beside. ap (λ f. global_value c.args.name.now f c.args.place after (state_with c.args.heap.now fuel beside)) (sym (c.in_ok-value.ensures ∙ ap (λ id. found_of c.args.heap.now id c.args.name.now) (by_number _ _ c.built_in-global.ensures)) ∙ c.in-Absent.is)) c.throw_unknown.ensures

pub returns-in-LeftOut : goal.returns-in-LeftOut
returns-in-LeftOut c = record { is = λ after fuel beside. ap (λ f. global_value c.args.name.now f c.args.place after (state_with c.args.heap.now fuel beside)) (sym (c.in_ok-value.ensures ∙ ap (λ id. found_of c.args.heap.now id c.args.name.now) (by_number _ _ c.built_in-global.ensures)) ∙ c.in-LeftOut.is) }
