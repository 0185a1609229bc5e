use Rattle.std.proofs.Common.{◌<◌, drop, length, arith, refl}
use Rattle.heap_steps.proofs.Lists.{list_step, list_rest, list_end}
use Rattle.heap_steps.proofs.Chains.{forgets}
use Rattle.js_entries.proofs.Steps.{parameter_then, parameter_stops}
use Rattle.js_entries.proofs.names.bind_parameters.Goals as goal

pub loop-left-preserved : goal.loop-left-preserved
loop-left-preserved c = λ this r h w. c.loop-left.invariant this r h (rw (list_step _ _ c.name-item.is c.in-len1-up.len_at_least)
    (parameter_then (record { scope = c.args.scope; this = this }) c.args.place c.name-item.result (drop 1 c.loop-left.left.now) c.loop-left.values.now _ _ _ _ (rw c.in_ok-value.ensures at (c.in_ok-write_name.ensures this)) (rw (list_rest c.loop-left.left.now, c.behind_first-values.ensures) at w)))

pub returns-in_err-value : goal.returns-in_err-value
returns-in_err-value c = λ this. c.loop-left.invariant this _ _ (forgets _ _ c.from_residual.ensures.1 refl)

pub returns-in_err-write_name : goal.returns-in_err-write_name
returns-in_err-write_name c = λ this. c.loop-left.invariant this _ _ (rw (list_step _ _ c.name-item.is c.in-len1-up.len_at_least)
    (parameter_stops (record { scope = c.args.scope; this = this }) c.args.place c.name-item.result (drop 1 c.loop-left.left.now) c.loop-left.values.now _ _ _ _ c.from_residual-in_err-write_name.ensures.1 (rw c.in_ok-value.ensures at (c.in_err-write_name.ensures this))))

pub returns : goal.returns
returns c = λ this. c.loop-left.invariant this _ _ (rw (let e : length c.loop-left.left.now < 1 = omega arith in list_end _ e) (record { is = λ after fuel beside. refl }))
