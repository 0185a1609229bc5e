use Rattle.std.proofs.Common.{sym, ◌∙◌}
use Rattle.js_native_calls.proofs.Steps.{works_back, works_ends}
use Rattle.js_primary.proofs.FunctionValues.{found, plain_function, own_function}
use Rattle.js_machine.specs.Moves.{functions_of, inner}
use Rattle.js_frames.specs.Parts.{context_of}
use Rattle.js_primary.proofs.functions.function_value.Goals as goal

pub returns-then-has_name : goal.returns-then-has_name
returns-then-has_name c = rw (own_function (functions_of c.args.machine.now) (inner c.args.machine.now) (context_of c.args.machine.now.context) c.args.place c.args.number c.get-function.result (found c.args.machine.now.functions.now c.args.number c.get-function.result c.get-function.ensures.lookup) (sym c.has_name.ensures ∙ c.if-has_name.true)) (rw c.in_ok-arity.ensures at c.named_function.ensures)

pub returns-in_err-value : goal.returns-in_err-value
returns-in_err-value c = rw (plain_function (functions_of c.args.machine.now) (inner c.args.machine.now) (context_of c.args.machine.now.context) c.args.place c.args.number c.get-function.result (found c.args.machine.now.functions.now c.args.number c.get-function.result c.get-function.ensures.lookup) (sym c.has_name.ensures ∙ c.if-has_name.false)) (works_ends _ _ _ _ _ c.from_residual-in_err-value.ensures.1 (rw c.in_ok-arity.ensures at c.in_err-value.ensures))

pub returns : goal.returns
returns c = rw (plain_function (functions_of c.args.machine.now) (inner c.args.machine.now) (context_of c.args.machine.now.context) c.args.place c.args.number c.get-function.result (found c.args.machine.now.functions.now c.args.number c.get-function.result c.get-function.ensures.lookup) (sym c.has_name.ensures ∙ c.if-has_name.false)) (works_back _ _ _ _ (rw c.in_ok-arity.ensures at c.in_ok-value.ensures))
