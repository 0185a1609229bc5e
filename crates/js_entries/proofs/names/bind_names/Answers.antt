use Rattle.std.proofs.Common.{map}
use Rattle.js_entries.proofs.Steps.{bound_then, functions_stop, parameters_stop}
use Rattle.js_tree.specs.View.{function_of}
use Rattle.js_entries.proofs.names.bind_names.Goals as goal

pub returns-in_err-bind_parameters : goal.returns-in_err-bind_parameters
returns-in_err-bind_parameters c = λ this. parameters_stop (map function_of c.args.functions.now) c.args.function.now c.args.scope this c.args.arguments.now c.args.place _ _ _ _ c.from_residual.ensures.1 (rw c.as_slice-parameters.ensures at (c.in_err-bind_parameters.ensures this))

pub returns-in_err-bind_functions : goal.returns-in_err-bind_functions
returns-in_err-bind_functions c = λ this. functions_stop (map function_of c.args.functions.now) c.args.function.now c.args.scope this c.args.arguments.now c.args.place _ _ _ _ _ c.from_residual-in_err-bind_functions.ensures.1 (rw c.as_slice-parameters.ensures at (c.in_ok-bind_parameters.ensures this)) (rw c.as_slice-body.ensures at (c.in_err-bind_functions.ensures this))

pub returns : goal.returns
returns c = λ this. bound_then (map function_of c.args.functions.now) c.args.function.now c.args.scope this c.args.arguments.now c.args.place _ _ _ _ _ (rw c.as_slice-parameters.ensures at (c.in_ok-bind_parameters.ensures this)) (rw c.as_slice-body.ensures at (c.in_ok-bind_functions.ensures this)) c.bind_arguments.ensures
