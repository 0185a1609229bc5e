use Rattle.std.proofs.Common.{refl}
use Rattle.heap_steps.proofs.Chains.{chained, stops}
use Rattle.js_natives.proofs.lists.array_of.Goals as goal

pub returns-in_err-array : goal.returns-in_err-array
returns-in_err-array c = stops _ _ _ _ _ _ c.from_residual.ensures.1 c.in_err-array.ensures

pub returns-in_err-define_elements : goal.returns-in_err-define_elements
returns-in_err-define_elements c = chained _ _ _ _ _ _ _ c.in_ok-array.ensures (stops _ _ _ _ _ _ c.from_residual-in_err-define_elements.ensures.1 c.in_err-define_elements.ensures)

pub returns : goal.returns
returns c = chained _ _ _ _ _ _ _ c.in_ok-array.ensures (chained _ _ _ _ _ _ _ c.in_ok-define_elements.ensures (record { is = λ after fuel beside. refl }))
