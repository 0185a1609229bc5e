use Rattle.std.proofs.Common.{sym}
use Rattle.js_machine.proofs.Steps.{works_then, works_stops}
use Rattle.js_native_calls.proofs.Steps.{gives_value}
use Rattle.js_machine.specs.Moves.{inner}
use Rattle.js_evaluation.specs.Parts.{calls}
use Rattle.js_expressions.proofs.updates.update_by.Goals as goal

pub returns-in_err-old : goal.returns-in_err-old
returns-in_err-old c = works_stops _ _ _ _ _ _ c.from_residual.ensures.1 (rw c.to_number.ensures at (c.in_err-old.ensures (calls (inner c.args.machine.now)) c.args.machine.now.state.heap))

pub returns-in_err-new : goal.returns-in_err-new
returns-in_err-new c = works_then _ _ _ _ _ (rw c.to_number.ensures at (c.in_ok-old.ensures (calls (inner c.args.machine.now)) c.args.machine.now.state.heap)) (works_stops _ _ _ _ _ _ c.from_residual-in_err-new.ensures.1 (c.in_err-new.ensures (calls (inner c.args.machine.now)) c.args.machine.now.state.heap))

pub returns-in_err-write_reference : goal.returns-in_err-write_reference
returns-in_err-write_reference c = works_then _ _ _ _ _ (rw c.to_number.ensures at (c.in_ok-old.ensures (calls (inner c.args.machine.now)) c.args.machine.now.state.heap)) (works_then _ _ _ _ _ (c.in_ok-new.ensures (calls (inner c.args.machine.now)) c.args.machine.now.state.heap) (works_stops _ _ _ _ _ _ c.from_residual-in_err-write_reference.ensures.1 (c.in_err-write_reference.ensures c.args.machine.now.context.this)))

pub returns : goal.returns
returns c = works_then _ _ _ _ _ (rw c.to_number.ensures at (c.in_ok-old.ensures (calls (inner c.args.machine.now)) c.args.machine.now.state.heap)) (works_then _ _ _ _ _ (c.in_ok-new.ensures (calls (inner c.args.machine.now)) c.args.machine.now.state.heap) (works_then _ _ _ _ _ (c.in_ok-write_reference.ensures c.args.machine.now.context.this) (gives_value _ _ _ (sym c.given_by.ensures))))
