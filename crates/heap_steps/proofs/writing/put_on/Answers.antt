use Rattle.std.proofs.Common.{if◌then◌else◌, sym, ap, ◌∙◌}
use Rattle.heap_objects.specs.Object.{property_after}
use Rattle.object_heap.specs.Heap.{stored}
use Rattle.run_trees.specs.Runs.{pure}
use Rattle.js_evaluation.specs.Objects.{written}
use Rattle.heap_steps.specs.Works.{state_with}
use Rattle.heap_steps.proofs.Chains.{as_part}
use Rattle.heap_steps.proofs.writing.put_on.Goals as goal

pub returns-then-is_fixed : goal.returns-then-is_fixed
returns-then-is_fixed c = record { is = λ after fuel beside. ap (λ b. (if b then pure tt else written c.args.place (stored c.args.heap.now c.args.object c.args.name.now c.args.value (property_after c.args.value))) after (state_with c.args.heap.now fuel beside)) (sym c.is_fixed.ensures ∙ c.if-is_fixed.true) }

pub returns-in-Ok : goal.returns-in-Ok
returns-in-Ok c = record {
  is = λ after fuel beside. ap (λ b. (if b then pure tt else written c.args.place (stored c.args.heap.now c.args.object c.args.name.now c.args.value (property_after c.args.value))) after (state_with c.args.heap.now fuel beside)) (sym c.is_fixed.ensures ∙ c.if-is_fixed.false)
      ∙ ap (λ r. written c.args.place r after (state_with c.args.heap.now fuel beside)) c.in-Ok.ensures.ok;
}

pub returns-in-Err : goal.returns-in-Err
returns-in-Err c = as_part _ (λ after fuel beside. ap (λ b. (if b then pure tt else written c.args.place (stored c.args.heap.now c.args.object c.args.name.now c.args.value (property_after c.args.value))) after (state_with c.args.heap.now fuel beside)) (sym c.is_fixed.ensures ∙ c.if-is_fixed.false))
    (rw c.in-Err.ensures.unchanged at (c.not_stored.ensures _ c.in-Err.ensures.err))
