use Rattle.std.proofs.Common.{arith, refl}
use Rattle.js_runs.proofs.Waiting.{waits_for_a_value}
use Rattle.js_runs.proofs.back.referred.Goals as goal

pub returns-in-Hold : goal.returns-in-Hold
returns-in-Hold c = record { goes = λ last. rw c.in-Hold.is refl; light = omega arith }

pub returns-in-Target : goal.returns-in-Target
returns-in-Target c = rw c.in-Target.is c.target_back.ensures

pub returns-in-Loop : goal.returns-in-Loop
returns-in-Loop c = rw c.in-Loop.is c.loop_referred.ensures

pub returns : goal.returns
returns c = waits_for_a_value _ _ _ _ _ c.in_default.not-Hold c.in_default.not-Target c.in_default.not-Loop c.back.ensures
