use Rattle.std.proofs.Common.{arith, refl}
use Rattle.js_machine.proofs.Steps.{forgets, works_then, works_stops}
use Rattle.js_primary.proofs.literals.text_literal.Goals as goal

pub returns-in_err-test_text : goal.returns-in_err-test_text
returns-in_err-test_text c = works_stops _ _ _ _ _ _ c.from_residual.ensures.1 (c.in_err-test_text.ensures.tests _)

pub returns-in_err-text : goal.returns-in_err-text
returns-in_err-text c = forgets _ _ c.from_residual-in_err-text.ensures.1 refl

pub returns : goal.returns
returns c = works_then _ _ _ _ _ (c.in_ok-test_text.ensures.tests _) record { goes = λ last. rw c.in_ok-text.ensures refl; light = omega arith }
