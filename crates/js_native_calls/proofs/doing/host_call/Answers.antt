use Rattle.std.proofs.Common.{refl, ap, arith}
use Rattle.js_evaluation.specs.PacNatives.{pac_walk, pac_work}
use Rattle.js_native_calls.proofs.Walks.{walk_charged, walk_stopped}
use Rattle.js_native_calls.proofs.doing.host_call.Goals as goal

pub returns-in_err-charge_walk : goal.returns-in_err-charge_walk
returns-in_err-charge_walk c =
    walk_stopped (pac_walk c.args.function c.args.values) c.args.place (pac_work c.args.function c.args.values c.args.place) _
    (pac_walk c.args.function c.as_slice.result.now) (ap (pac_walk c.args.function) c.as_slice.ensures) _ _ _ _ c.from_residual.ensures.1 c.in_err-charge_walk.ensures

pub returns : goal.returns
returns c =
    walk_charged (pac_walk c.args.function c.args.values) c.args.place (pac_work c.args.function c.args.values c.args.place) _
    (pac_walk c.args.function c.as_slice.result.now) (ap (pac_walk c.args.function) c.as_slice.ensures) _ _ _ c.in_ok-charge_walk.ensures
    (record { goes = λ last. refl; light = omega arith })
