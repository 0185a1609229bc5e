use Rattle.std.proofs.Common.{◌≡◌, ◌+◌, drop, arith, ap}
use Rattle.heap_steps.proofs.Lists.{list_step}
use Rattle.js_evaluation.specs.Walks.{text_units, units_in}
use Rattle.js_natives.proofs.Charging.{charge_stops}
use Rattle.js_natives.proofs.walks.charge_text_units.Goals as goal

pub returns-in_err-charge_units : goal.returns-in_err-charge_units
returns-in_err-charge_units c =
    let both : text_units c.loop-left.left.now ≡ units_in c.value-item.result + text_units (drop 1 c.loop-left.left.now) = ap text_units (list_step _ _ c.value-item.is c.in-len1-up.len_at_least) in
    charge_stops (units_in c.value-item.result) _ _ _ _ _ (λ less. omega (arith, both, less, c.loop-left.invariant)) _ _ c.from_residual.ensures.1 (c.in_err-charge_units.ensures _ c.units_in.ensures)
