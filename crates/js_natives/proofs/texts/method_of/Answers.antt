use Rattle.heap_steps.proofs.Chains.{chained, stops}
use Rattle.js_natives.proofs.texts.method_of.Goals as goal

pub returns-in_err-test_text : goal.returns-in_err-test_text
returns-in_err-test_text c = stops _ _ _ _ _ _ c.from_residual.ensures.1 (c.in_err-test_text.ensures.tests _)

pub call_text-requires : goal.call_text-requires
call_text-requires c = c.in_ok-test_text.ensures.short

pub returns : goal.returns
returns c = chained _ _ _ _ _ _ _ (c.in_ok-test_text.ensures.tests _) (rw (c.in_ok-end.ensures, c.as_slice.ensures, c.in_ok-arguments.ensures) at c.text_end.ensures)
