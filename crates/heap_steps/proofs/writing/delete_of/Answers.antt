use Rattle.std.proofs.Common.{refl, sym, ap, ◌∙◌}
use Rattle.object_heap.specs.Heap.{deleted_of}
use Rattle.js_evaluation.specs.Objects.{deleted_unless}
use Rattle.heap_steps.specs.Works.{state_with}
use Rattle.heap_steps.proofs.Chains.{forgets, truth_works}
use Rattle.heap_steps.proofs.writing.delete_of.Goals as goal

pub returns-in_err-name : goal.returns-in_err-name
returns-in_err-name c = forgets _ _ c.from_residual.ensures.1 refl

pub returns-in-LeftOut : goal.returns-in-LeftOut
returns-in-LeftOut c = record { is = λ after fuel beside. ap (λ f. deleted_unless f c.args.object c.args.name.now c.args.place after (state_with c.args.heap.now fuel beside)) (sym c.in_ok-name.ensures ∙ c.in-LeftOut.is) }

pub returns-in-Absent : goal.returns-in-Absent
returns-in-Absent c = record {
  is = λ after fuel beside. ap (λ f. deleted_unless f c.args.object c.args.name.now c.args.place after (state_with c.args.heap.now fuel beside)) (sym c.in_ok-name.ensures ∙ c.in-Absent.is)
      ∙ (truth_works c.args.heap.now (deleted_of c.args.heap.now c.args.object c.args.name.now) _ _ c.in_ok-delete-in-Absent.ensures.answer c.in_ok-delete-in-Absent.ensures.after).is after fuel beside;
}

pub returns : goal.returns
returns c = record {
  is = λ after fuel beside. ap (λ f. deleted_unless f c.args.object c.args.name.now c.args.place after (state_with c.args.heap.now fuel beside)) (sym c.in_ok-name.ensures ∙ c.in-Value.is)
      ∙ (truth_works c.args.heap.now (deleted_of c.args.heap.now c.args.object c.args.name.now) _ _ c.in_ok-delete-in-Value.ensures.answer c.in_ok-delete-in-Value.ensures.after).is after fuel beside;
}
