use Rattle.std.proofs.Common.{refl}
use Rattle.js_machine.proofs.Steps.{forgets, works_stops}
use Rattle.js_native_calls.proofs.Begins.{asked_begin, plain_begin}
use Rattle.js_native_calls.proofs.searching.begun.Goals as goal

pub returns-in_err-key : goal.returns-in_err-key
returns-in_err-key c = forgets _ _ c.from_residual.ensures.1 refl

pub returns-in_err-begin : goal.returns-in_err-begin
returns-in_err-begin c = works_stops _ _ _ _ _ _ c.from_residual-in_err-begin.ensures.1 (rw c.in_ok-key.ensures at c.in_err-begin.ensures)

pub returns-in-Object : goal.returns-in-Object
returns-in-Object c =
    asked_begin c.args.machine.now c.args.native c.args.values c.args.place _ _ c.args.pattern _ c.in_ok-begin.begin (rw c.in_ok-key.ensures at c.in_ok-begin.ensures) c.in-Object.object c.in-Object.is c.convert.ensures

pub returns : goal.returns
returns c =
    plain_begin c.args.machine.now c.args.native c.args.values c.args.place _ _ c.args.pattern _ c.in_ok-begin.begin (rw c.in_ok-key.ensures at c.in_ok-begin.ensures) c.in_default.not-Object c.begin_converted.ensures
