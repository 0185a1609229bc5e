use Rattle.std.proofs.Common.{◌≡◌, ◌+◌, drop, arith, ap}
use Rattle.heap_steps.proofs.Lists.{list_step}
use Rattle.js_evaluation.specs.NativeWork.{lengths_in, elements_in}
use Rattle.js_natives.proofs.Charging.{charge_stops}
use Rattle.js_natives.proofs.walks.charge_lengths.Goals as goal

pub returns-in_err-charge_units : goal.returns-in_err-charge_units
returns-in_err-charge_units c =
    let both : lengths_in c.args.heap.now c.loop-left.left.now ≡ elements_in c.args.heap.now c.value-item.result + lengths_in c.args.heap.now (drop 1 c.loop-left.left.now)
    = ap (lengths_in c.args.heap.now) (list_step _ _ c.value-item.is c.in-len1-up.len_at_least) in
    charge_stops (elements_in c.args.heap.now c.value-item.result) _ _ _ _ _ (λ less. omega (arith, both, less, c.loop-left.invariant)) _ _ c.from_residual.ensures.1 (c.in_err-charge_units.ensures _ c.elements_in.ensures)
