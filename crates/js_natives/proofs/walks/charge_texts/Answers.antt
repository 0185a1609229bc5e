use Rattle.std.proofs.Common.{◌≡◌, ◌+◌, drop, length, arith, ap}
use Rattle.heap_steps.proofs.Lists.{list_step}
use Rattle.js_convert.specs.Texts.{text_of}
use Rattle.js_evaluation.specs.Walks.{units_of}
use Rattle.js_natives.proofs.Charging.{charge_stops}
use Rattle.js_natives.proofs.walks.charge_texts.Goals as goal

pub returns-in_err-charge_units : goal.returns-in_err-charge_units
returns-in_err-charge_units c =
    let units = length (text_of c.value-item.result) in
    let both : units_of c.loop-left.left.now ≡ units + units_of (drop 1 c.loop-left.left.now) = ap units_of (list_step _ _ c.value-item.is c.in-len1-up.len_at_least) in
    charge_stops units _ _ _ _ _ (λ less. omega (arith, both, less, c.loop-left.invariant)) _ _ c.from_residual-in_err-charge_units.ensures.1 (c.in_err-charge_units.ensures _ c.in_ok-units.ensures)
