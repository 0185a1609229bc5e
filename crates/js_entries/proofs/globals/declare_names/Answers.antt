use Rattle.std.proofs.Common.{◌<◌, drop, length, arith, refl}
use Rattle.heap_steps.proofs.Lists.{list_step, list_rest, list_end}
use Rattle.js_entries.proofs.Steps.{variable_then, variable_stops}
use Rattle.js_entries.proofs.globals.declare_names.Goals as goal

pub loop-left-preserved : goal.loop-left-preserved
loop-left-preserved c = λ r h w. c.loop-left.invariant r h (rw (list_step _ _ c.name-item.is c.in-len1-up.len_at_least)
    (variable_then c.name-item.result (drop 1 c.loop-left.left.now) _ _ _ _ c.in_ok-declare_variable.ensures (rw (list_rest c.loop-left.left.now) at w)))

pub returns-in_err-declare_variable : goal.returns-in_err-declare_variable
returns-in_err-declare_variable c = c.loop-left.invariant _ _ (rw (list_step _ _ c.name-item.is c.in-len1-up.len_at_least)
    (variable_stops c.name-item.result (drop 1 c.loop-left.left.now) _ _ _ _ c.from_residual.ensures.1 c.in_err-declare_variable.ensures))

pub returns : goal.returns
returns c = c.loop-left.invariant _ _ (rw (let e : length c.loop-left.left.now < 1 = omega arith in list_end _ e) (record { is = λ after fuel beside. refl }))
