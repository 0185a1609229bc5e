use Rattle.std.proofs.Common.{refl}
use Rattle.heap_steps.proofs.Chains.{chained, stops, forgets}
use Rattle.js_natives.proofs.lists.give_texts.Goals as goal

pub returns-in_err-spend_all : goal.returns-in_err-spend_all
returns-in_err-spend_all c = stops _ _ _ _ _ _ c.from_residual.ensures.1 c.in_err-spend_all.ensures

pub returns-in_err-values : goal.returns-in_err-values
returns-in_err-values c = forgets _ _ c.from_residual-in_err-values.ensures.1 refl

pub returns : goal.returns
returns c = chained _ _ _ _ _ _ _ c.in_ok-spend_all.ensures (rw (c.as_slice.ensures, c.in_ok-values.ensures) at c.array_of.ensures)
