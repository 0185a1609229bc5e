use Rattle.std.proofs.Common.{◌<◌, drop, length, map, arith, refl}
use Rattle.heap_steps.proofs.Lists.{list_step, list_rest, list_end}
use Rattle.js_entries.proofs.Steps.{global_then, global_stops}
use Rattle.js_tree.specs.Tree.{statements_of}
use Rattle.js_tree.specs.View.{function_of}
use Rattle.js_entries.proofs.globals.declare_functions.Goals as goal

pub loop-left-preserved : goal.loop-left-preserved
loop-left-preserved c = λ r h w. c.loop-left.invariant r h (rw (list_step _ _ c.statement-item.is c.in-len1-up.len_at_least)
    (global_then (map function_of c.args.functions.now) c.statement-item.result (statements_of (drop 1 c.loop-left.left.now)) _ _ _ _ c.in_ok-declare_in.ensures (rw (list_rest c.loop-left.left.now) at w)))

pub returns-in_err-declare_in : goal.returns-in_err-declare_in
returns-in_err-declare_in c = c.loop-left.invariant _ _ (rw (list_step _ _ c.statement-item.is c.in-len1-up.len_at_least)
    (global_stops (map function_of c.args.functions.now) c.statement-item.result (statements_of (drop 1 c.loop-left.left.now)) _ _ _ _ c.from_residual.ensures.1 c.in_err-declare_in.ensures))

pub returns : goal.returns
returns c = c.loop-left.invariant _ _ (rw (let e : length c.loop-left.left.now < 1 = omega arith in list_end _ e) (record { is = λ after fuel beside. refl }))
