use Rattle.heap_steps.proofs.Chains.{stops, chained}
use Rattle.js_expressions.proofs.suffixes.member.Goals as goal

pub returns-in_err-test_base : goal.returns-in_err-test_base
returns-in_err-test_base c = stops _ _ _ _ _ _ c.from_residual.ensures.1 c.in_err-test_base.ensures

pub returns : goal.returns
returns c = chained _ _ _ _ _ _ _ c.in_ok-test_base.ensures c.get.ensures
