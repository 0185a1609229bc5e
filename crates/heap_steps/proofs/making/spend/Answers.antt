use Rattle.std.proofs.Common.{length, inr}
use Rattle.object_heap.specs.Heap.{text_spent_of}
use Rattle.heap_steps.proofs.Chains.{changed_works, changed_refused}
use Rattle.heap_steps.proofs.making.spend.Goals as goal

pub returns-in-Ok : goal.returns-in-Ok
returns-in-Ok c = changed_works _ _ (λ h. text_spent_of h (length c.args.text.now)) _ (rw c.len.ensures at c.in-Ok.ensures.ok)

pub returns-in-Err : goal.returns-in-Err
returns-in-Err c = rw c.refused.ensures (changed_refused _ _ (λ h. text_spent_of h (length c.args.text.now)) _ _ (inr (rw c.len.ensures at c.in-Err.ensures.err)))
