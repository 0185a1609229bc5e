use Rattle.std.proofs.Common.{arith, refl}
use Rattle.js_machine.proofs.Steps.{works_then, works_stops}
use Rattle.js_native_calls.proofs.giving.give_text.Goals as goal

pub returns-in_err-spend : goal.returns-in_err-spend
returns-in_err-spend c = works_stops _ _ _ _ _ _ c.from_residual.ensures.1 c.in_err-spend.ensures

pub returns : goal.returns
returns c = works_then _ _ _ _ tt c.in_ok-spend.ensures (record { goes = λ last. refl; light = omega arith })
