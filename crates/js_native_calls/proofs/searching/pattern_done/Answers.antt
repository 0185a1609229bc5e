use Rattle.std.proofs.Common.{List, ap}
use Rattle.heap_values.specs.declared.value.Value.{Value}
use Rattle.js_evaluation.specs.declared.native.Native.TheVariants as native
use Rattle.js_evaluation.specs.NativeTable.{walk_of}
use Rattle.js_evaluation.specs.Walks.{values_walk}
use Rattle.js_machine.specs.Moves.{at}
use Rattle.js_native_calls.specs.Calls.{searched}
use Rattle.js_native_calls.proofs.Walks.{walk_charged, walk_stopped}
use Rattle.js_native_calls.proofs.searching.pattern_done.Goals as goal

pub returns-in_err-charge_walk_of : goal.returns-in_err-charge_walk_of
returns-in_err-charge_walk_of c =
    walk_stopped (values_walk (walk_of (native.Pattern c.args.native)) c.args.values c.args.handed) c.args.place (at c.args.machine.now searched c.args.native c.args.values c.args.place) _
    (values_walk (walk_of (native.Pattern c.args.native)) c.as_slice.result.now c.args.handed)
    (ap (λ (vs : List Value). values_walk (walk_of (native.Pattern c.args.native)) vs c.args.handed) c.as_slice.ensures) _ _ _ _ c.from_residual.ensures.1 c.in_err-charge_walk_of.ensures

pub returns : goal.returns
returns c =
    walk_charged (values_walk (walk_of (native.Pattern c.args.native)) c.args.values c.args.handed) c.args.place (at c.args.machine.now searched c.args.native c.args.values c.args.place) _
    (values_walk (walk_of (native.Pattern c.args.native)) c.as_slice.result.now c.args.handed)
    (ap (λ (vs : List Value). values_walk (walk_of (native.Pattern c.args.native)) vs c.args.handed) c.as_slice.ensures) _ _ _ c.in_ok-charge_walk_of.ensures c.searched.ensures
