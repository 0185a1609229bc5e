use Rattle.std.proofs.Common.{refl}
use Rattle.js_machine.proofs.Steps.{works_then, works_stops}
use Rattle.js_native_calls.proofs.Steps.{gives}
use Rattle.js_primary.proofs.literals.pattern_literal.Goals as goal

pub returns-in_err-test_text : goal.returns-in_err-test_text
returns-in_err-test_text c = works_stops _ _ _ _ _ _ c.from_residual.ensures.1 (rw c.body.ensures at (c.in_err-test_text.ensures.tests c.args.machine.now.state.heap))

pub returns-in_err-pattern : goal.returns-in_err-pattern
returns-in_err-pattern c = works_then _ _ _ _ _ (rw c.body.ensures at (c.in_ok-test_text.ensures.tests c.args.machine.now.state.heap))
    (works_stops _ _ _ _ _ _ c.from_residual-in_err-pattern.ensures.1 c.in_err-pattern.ensures)

pub returns-in_err-define_as : goal.returns-in_err-define_as
returns-in_err-define_as c = works_then _ _ _ _ _ (rw c.body.ensures at (c.in_ok-test_text.ensures.tests c.args.machine.now.state.heap))
    (works_then _ _ _ _ _ c.in_ok-pattern.ensures
    (works_stops _ _ _ _ _ _ c.from_residual-in_err-define_as.ensures.1 (rw c.from.ensures at c.in_err-define_as.ensures)))

pub returns : goal.returns
returns c = works_then _ _ _ _ _ (rw c.body.ensures at (c.in_ok-test_text.ensures.tests c.args.machine.now.state.heap))
    (works_then _ _ _ _ _ c.in_ok-pattern.ensures
    (works_then _ _ _ _ _ (rw c.from.ensures at c.in_ok-define_as.ensures) (gives _ _ _ (λ after. refl))))
