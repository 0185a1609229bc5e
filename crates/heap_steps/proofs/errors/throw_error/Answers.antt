use Rattle.std.proofs.Common.{refl}
use Rattle.heap_steps.proofs.Chains.{chained, stops}
use Rattle.heap_steps.proofs.errors.throw_error.Goals as goal

pub returns-in_err-test_text : goal.returns-in_err-test_text
returns-in_err-test_text g c = stops _ _ _ _ _ _ c.from_residual.ensures.1 (c.in_err-test_text.ensures.tests _)

pub returns-in_err-error : goal.returns-in_err-error
returns-in_err-error g c = chained _ _ _ _ _ _ _ (c.in_ok-test_text.ensures.tests _) (stops _ _ _ _ _ _ c.from_residual-in_err-error.ensures.1 c.in_err-error.ensures)

pub returns-in_err-define_as : goal.returns-in_err-define_as
returns-in_err-define_as g c = chained _ _ _ _ _ _ _ (c.in_ok-test_text.ensures.tests _) (chained _ _ _ _ _ _ _ c.in_ok-error.ensures (stops _ _ _ _ _ _ c.from_residual-in_err-define_as.ensures.1 c.in_err-define_as.ensures))

pub returns : goal.returns
returns g c = chained _ _ _ _ _ _ _ (c.in_ok-test_text.ensures.tests _) (chained _ _ _ _ _ _ _ c.in_ok-error.ensures (chained _ _ _ _ _ _ _ c.in_ok-define_as.ensures (record { is = λ after fuel beside. refl })))
