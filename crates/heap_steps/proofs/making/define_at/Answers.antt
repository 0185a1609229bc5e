use Rattle.std.proofs.Common.{true}
use Rattle.std.specs.Fmt.{decimal}
use Rattle.heap_objects.specs.Object.{value_property}
use Rattle.object_heap.specs.Heap.{stored}
use Rattle.heap_steps.proofs.Chains.{changed_works, changed_refused}
use Rattle.heap_steps.proofs.making.define_at.Goals as goal

pub returns-in-Ok : goal.returns-in-Ok
returns-in-Ok c = changed_works _ _ (λ h. stored h c.args.object (decimal c.args.index) c.args.value (λ _. value_property c.args.value true true)) _ c.in-Ok.ensures.ok

pub returns-in-Err : goal.returns-in-Err
returns-in-Err c = rw c.refused.ensures (changed_refused _ _ (λ h. stored h c.args.object (decimal c.args.index) c.args.value (λ _. value_property c.args.value true true)) _ _ c.in-Err.ensures.err)
