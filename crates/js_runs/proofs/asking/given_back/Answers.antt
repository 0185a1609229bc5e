use Rattle.js_runs.proofs.Calling.{value_back, value_stops}
use Rattle.js_runs.proofs.asking.given_back.Goals as goal

pub returns-in_err-value : goal.returns-in_err-value
returns-in_err-value c = value_stops _ _ _ _ _ _ c.from_residual.ensures.1 c.in_err-value.ensures

pub returns : goal.returns
returns c = value_back _ _ _ _ _ c.in_ok-value.ensures
