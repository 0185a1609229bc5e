use Rattle.std.proofs.Common.{length, refl}
use Rattle.js_evaluation.specs.NativeWork.{plain_walk, plain_work}
use Rattle.js_native_calls.proofs.Steps.{with_fuel, works_back, works_ends}
use Rattle.js_native_calls.proofs.Walks.{walk_charged, walk_read}
use Rattle.js_native_calls.proofs.doing.plain_done.Goals as goal

pub returns-in_err-value : goal.returns-in_err-value
returns-in_err-value c =
    walk_read (λ h. plain_walk c.args.native h c.args.values.now (length c.args.handed.now)) c.args.place (plain_work c.args.native c.args.values.now c.args.place) c.args.machine.now _ _
    (walk_charged _ c.args.place (plain_work c.args.native c.args.values.now c.args.place) c.args.machine.now _ refl c.charge_plain_walk.new.fuel _ _ c.in_ok-charge_plain_walk.ensures
    (works_ends (plain_work c.args.native c.args.values.now c.args.place) (with_fuel c.args.machine.now c.charge_plain_walk.new.fuel) _ _ _ c.from_residual-in_err-value.ensures.1 c.in_err-value.ensures))

pub returns : goal.returns
returns c =
    walk_read (λ h. plain_walk c.args.native h c.args.values.now (length c.args.handed.now)) c.args.place (plain_work c.args.native c.args.values.now c.args.place) c.args.machine.now _ _
    (walk_charged _ c.args.place (plain_work c.args.native c.args.values.now c.args.place) c.args.machine.now _ refl c.charge_plain_walk.new.fuel _ _ c.in_ok-charge_plain_walk.ensures
    (works_back (plain_work c.args.native c.args.values.now c.args.place) (with_fuel c.args.machine.now c.charge_plain_walk.new.fuel) c.in_ok-value.value _ c.in_ok-value.ensures))
