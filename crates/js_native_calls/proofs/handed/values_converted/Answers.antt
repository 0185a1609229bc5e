use Rattle.std.proofs.Common.{◌≡◌, ◌-◌, suc, arith}
use Rattle.js_evaluation.specs.Parts.{calls}
use Rattle.js_machine.specs.Moves.{at, inner}
use Rattle.js_native_calls.proofs.Handing.{none_left, next_stops, next_value, next_asked}
use Rattle.js_native_calls.proofs.handed.values_converted.Goals as goal

pub returns-in_err-next : goal.returns-in_err-next
returns-in_err-next c =
    let some : c.loop-left.left ≡ suc (c.loop-left.left - 1) = omega arith in
    c.loop-left.invariant _ _ (next_stops c.loop-left.machine c.args.native c.loop-left.done c.loop-left.handed c.args.place c.loop-left.left _ (c.loop-left.left - 1) some _ _
    c.from_residual.ensures.1 (rw (c.len-at.ensures, c.as_slice.ensures) at (c.in_err-next.ensures (calls (inner c.loop-left.machine)))))

pub returns-in-Asked : goal.returns-in-Asked
returns-in-Asked c =
    let some : c.loop-left.left ≡ suc (c.loop-left.left - 1) = omega arith in
    c.loop-left.invariant _ _ (next_asked c.loop-left.machine c.args.native c.loop-left.done c.loop-left.handed c.args.place c.loop-left.left _ (c.loop-left.left - 1) some _ _
    c.in-Asked.object (rw (c.in-Asked.is, c.len-at.ensures, c.as_slice.ensures) at (c.in_ok-next.ensures (calls (inner c.loop-left.machine))))
    (rw (c.methods_for-methods.ensures, c.conversion_at.ensures, c.len-at.ensures) at c.convert.ensures))

pub loop-left-preserved : goal.loop-left-preserved
loop-left-preserved c = λ r m k.
    let some : c.loop-left.left ≡ suc (c.loop-left.left - 1) = omega arith in
    c.loop-left.invariant _ _ (next_value c.loop-left.machine c.args.native c.loop-left.done c.loop-left.handed c.args.place c.loop-left.left _ (c.loop-left.left - 1) some _ _
    c.in-Value.value _ (rw (c.in-Value.is, c.len-at.ensures, c.as_slice.ensures) at (c.in_ok-next.ensures (calls (inner c.loop-left.machine))))
    c.in_ok-push-in-Value.ensures.ok k)

pub returns : goal.returns
returns c =
    c.loop-left.invariant _ _ (none_left c.loop-left.machine c.args.native c.loop-left.done c.loop-left.handed c.args.place c.loop-left.left _ _ (omega arith) c.native_done.ensures)
