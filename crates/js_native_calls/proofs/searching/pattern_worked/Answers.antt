use Rattle.js_native_calls.proofs.Begins.{acts_back, acts_ends}
use Rattle.js_native_calls.proofs.searching.pattern_worked.Goals as goal

pub returns-in_err-value : goal.returns-in_err-value
returns-in_err-value c = acts_ends _ _ _ _ _ c.from_residual.ensures.1 (rw c.as_slice.ensures at c.in_err-value.ensures)

pub returns : goal.returns
returns c = acts_back _ _ _ _ (rw c.as_slice.ensures at c.in_ok-value.ensures)
