use Rattle.std.proofs.Common.{Some}
use Rattle.object_heap.specs.Heap.{scope_made_of}
use Rattle.heap_steps.proofs.Chains.{made_works, made_refused}
use Rattle.heap_steps.proofs.making.make_scope.Goals as goal

pub returns-in-Ok : goal.returns-in-Ok
returns-in-Ok c = made_works _ _ (λ h. scope_made_of h c.args.size (Some c.args.around)) _ _ c.in-Ok.ensures.ok

pub returns-in-Err : goal.returns-in-Err
returns-in-Err c = rw c.refused.ensures (made_refused _ _ (λ h. scope_made_of h c.args.size (Some c.args.around)) _ _ c.in-Err.ensures.err)
