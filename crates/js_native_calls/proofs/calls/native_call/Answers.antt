use Rattle.std.proofs.Common.{arith, refl, sym}
use Rattle.js_native_calls.proofs.calls.native_call.Goals as goal

pub returns-in-None : goal.returns-in-None
returns-in-None c = rw (sym c.in-None.ensures) (record { goes = λ last. refl; light = omega arith })

pub returns-in-Some : goal.returns-in-Some
returns-in-Some c = rw (sym c.in-Some.ensures) c.native_value.ensures
