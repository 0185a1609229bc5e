use Rattle.std.proofs.Common.{◌<◌, drop, length, map, arith, refl}
use Rattle.heap_steps.proofs.Lists.{list_step, list_rest, list_end}
use Rattle.js_entries.proofs.Steps.{function_then, function_stops}
use Rattle.js_tree.specs.Tree.{statements_of}
use Rattle.js_tree.specs.View.{function_of}
use Rattle.js_entries.proofs.names.bind_functions.Goals as goal

pub loop-left-preserved : goal.loop-left-preserved
loop-left-preserved c = λ this r h w. c.loop-left.invariant this r h (rw (list_step _ _ c.statement-item.is c.in-len1-up.len_at_least)
    (function_then (map function_of c.args.functions.now) (record { scope = c.args.scope; this = this }) c.args.place c.statement-item.result (statements_of (drop 1 c.loop-left.left.now)) _ _ _ _ (c.in_ok-bind_function.ensures this) (rw (list_rest c.loop-left.left.now) at w)))

pub returns-in_err-bind_function : goal.returns-in_err-bind_function
returns-in_err-bind_function c = λ this. c.loop-left.invariant this _ _ (rw (list_step _ _ c.statement-item.is c.in-len1-up.len_at_least)
    (function_stops (map function_of c.args.functions.now) (record { scope = c.args.scope; this = this }) c.args.place c.statement-item.result (statements_of (drop 1 c.loop-left.left.now)) _ _ _ _ c.from_residual.ensures.1 (c.in_err-bind_function.ensures this)))

pub returns : goal.returns
returns c = λ this. c.loop-left.invariant this _ _ (rw (let e : length c.loop-left.left.now < 1 = omega arith in list_end _ e) (record { is = λ after fuel beside. refl }))
