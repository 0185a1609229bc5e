use Rattle.std.proofs.Common.{refl}
use Rattle.pac_plan.specs.Plan.{say}
use Rattle.pac_command.specs.Check.{printed}
use Rattle.pac_command.proofs.check.check.Goals as goal

pub returns-in-Ok : goal.returns-in-Ok
returns-in-Ok g c = λ o. c.in-Ok.ensures.step o (λ script. say (printed script)) _ _ (refl, c.printed_script.ensures)

pub returns-in-Err : goal.returns-in-Err
returns-in-Err g c = λ o. rw c.output.ensures (c.in-Err.ensures.step o (λ script. say (printed script)))
