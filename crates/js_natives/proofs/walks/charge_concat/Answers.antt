use Rattle.std.proofs.Common.{arith}
use Rattle.js_evaluation.specs.NativeWork.{lengths_in}
use Rattle.js_evaluation.specs.Walks.{arguments_walk}
use Rattle.js_natives.proofs.Charging.{charge_stops, charge_then}
use Rattle.js_natives.proofs.walks.charge_concat.Goals as goal

pub returns-in_err-charge_arguments : goal.returns-in_err-charge_arguments
returns-in_err-charge_arguments c = charge_stops (arguments_walk c.args.values.now) _ _ _ _ _ (λ less. omega (arith, less)) _ _ c.from_residual.ensures.1 c.in_err-charge_arguments.ensures

pub returns : goal.returns
returns c = charge_then (arguments_walk c.args.values.now) (lengths_in c.args.heap.now c.args.values.now) _ _ _ _ c.in_ok-charge_arguments.ensures _ c.charge_lengths.ensures
