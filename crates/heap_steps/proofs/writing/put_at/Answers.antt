use Rattle.std.proofs.Common.{if◌then◌else◌, ap, ◌∙◌}
use Rattle.std.specs.Fmt.{decimal}
use Rattle.heap_objects.specs.Object.{property_after}
use Rattle.object_heap.specs.Heap.{stored}
use Rattle.run_trees.specs.Runs.{pure}
use Rattle.js_evaluation.specs.Objects.{written}
use Rattle.heap_steps.specs.Works.{state_with}
use Rattle.heap_steps.proofs.Chains.{as_part}
use Rattle.heap_steps.proofs.writing.put_at.Goals as goal

pub returns-in-Ok : goal.returns-in-Ok
returns-in-Ok c = record {
  is = λ after fuel beside. ap (λ b. (if b then pure tt else written c.args.place (stored c.args.heap.now c.args.object (decimal c.args.index) c.args.value (property_after c.args.value))) after (state_with c.args.heap.now fuel beside)) (c.requires (decimal c.args.index))
      ∙ ap (λ r. written c.args.place r after (state_with c.args.heap.now fuel beside)) c.in-Ok.ensures.ok;
}

pub returns-in-Err : goal.returns-in-Err
returns-in-Err c = as_part _ (λ after fuel beside. ap (λ b. (if b then pure tt else written c.args.place (stored c.args.heap.now c.args.object (decimal c.args.index) c.args.value (property_after c.args.value))) after (state_with c.args.heap.now fuel beside)) (c.requires (decimal c.args.index)))
    (rw c.in-Err.ensures.unchanged at (c.not_stored.ensures _ c.in-Err.ensures.err))
