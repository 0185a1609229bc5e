use Rattle.std.proofs.Common.{refl}
use Rattle.js_machine.proofs.Steps.{forgets, works_then, works_stops}
use Rattle.js_native_calls.proofs.Steps.{gives}
use Rattle.js_expressions.proofs.operators.behind_operator.Goals as goal

pub returns-in-Row : goal.returns-in-Row
returns-in-Row c = rw c.in-Row.is c.operands_from.ensures

pub returns-in_err-written-in-Write : goal.returns-in_err-written-in-Write
returns-in_err-written-in-Write c = forgets _ _ c.from_residual.ensures.1 refl

pub returns-in_err-write_reference-in-Write : goal.returns-in_err-write_reference-in-Write
returns-in_err-write_reference-in-Write c = rw c.in-Write.is (works_stops _ _ _ _ _ _ c.from_residual-in_err-write_reference-in-Write.ensures.1 (rw c.in_ok-written-in-Write.ensures at (c.in_err-write_reference-in-Write.ensures c.args.machine.now.context.this)))

pub returns-in_ok-write_reference-in-Write : goal.returns-in_ok-write_reference-in-Write
returns-in_ok-write_reference-in-Write c = rw c.in-Write.is (works_then _ _ _ _ _ (rw c.in_ok-written-in-Write.ensures at (c.in_ok-write_reference-in-Write.ensures c.args.machine.now.context.this)) (gives _ _ _ (λ after. refl)))
