use Rattle.std.proofs.Common.{refl}
use Rattle.heap_steps.proofs.properties.found_value.Goals as goal

pub returns-in-Value : goal.returns-in-Value
returns-in-Value c = λ h. record { is = λ after fuel beside. rw c.in-Value.is refl }

pub returns-in-Absent : goal.returns-in-Absent
returns-in-Absent c = λ h. record { is = λ after fuel beside. rw c.in-Absent.is refl }

pub returns-in-LeftOut : goal.returns-in-LeftOut
returns-in-LeftOut c = λ h. record { is = λ after fuel beside. rw c.in-LeftOut.is refl }
