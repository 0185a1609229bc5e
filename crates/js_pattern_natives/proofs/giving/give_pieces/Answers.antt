use Rattle.std.proofs.Common.{refl}
use Rattle.heap_steps.proofs.Chains.{forgets}
use Rattle.js_pattern_natives.proofs.giving.give_pieces.Goals as goal

pub returns-in_err-values : goal.returns-in_err-values
returns-in_err-values c = forgets _ _ c.from_residual.ensures.1 refl

pub returns : goal.returns
returns c = rw (c.as_slice.ensures, c.in_ok-values.ensures) at c.give_values.ensures
