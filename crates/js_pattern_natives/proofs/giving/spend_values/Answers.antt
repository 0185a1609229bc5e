use Rattle.std.proofs.Common.{◌<◌, drop, length, arith, refl}
use Rattle.heap_steps.proofs.Lists.{list_step, list_rest, list_end}
use Rattle.js_pattern_natives.proofs.Pieces.{spend_then, spend_stops}
use Rattle.js_pattern_natives.proofs.giving.spend_values.Goals as goal

pub loop-left-preserved : goal.loop-left-preserved
loop-left-preserved c = λ r h w. c.loop-left.invariant r h (rw (list_step _ _ c.value-item.is c.in-len1-up.len_at_least) (spend_then c.args.place c.value-item.result (drop 1 c.loop-left.left.now) _ _ _ _ c.in_ok-spend_value.ensures (rw (list_rest c.loop-left.left.now) at w)))

pub returns : goal.returns
returns c = c.loop-left.invariant _ _ (rw (let e : length c.loop-left.left.now < 1 = omega arith in list_end _ e) (record { is = λ after fuel beside. refl }))

pub returns-in_err-spend_value : goal.returns-in_err-spend_value
returns-in_err-spend_value c = c.loop-left.invariant _ _ (rw (list_step _ _ c.value-item.is c.in-len1-up.len_at_least) (spend_stops c.args.place c.value-item.result (drop 1 c.loop-left.left.now) _ _ _ _ c.from_residual.ensures.1 c.in_err-spend_value.ensures))
