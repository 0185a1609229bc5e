use Rattle.std.proofs.Common.{None, refl}
use Rattle.pac_command.proofs.Laws.{laws}
use Rattle.pac_command.proofs.Programs.{memory_first, says_usage, serves}
use Rattle.pac_command.proofs.top.pac.Goals as goal

pub returns-in_default : goal.returns-in_default
returns-in_default g c = record { serves = λ complete. serves _ _ _ _ _ _ None (memory_first _ _) (refl, refl); laws = laws }

pub returns-in-Some : goal.returns-in-Some
returns-in-Some g c = record {
  serves = λ complete. serves _ _ _ _ _ _ _ (rw (← (rw c.deref.ensures.value at c.in-Ok.ensures), c.in-Some.is) (c.done.ensures complete)) c.give.ensures;
  laws = laws;
}

pub returns-in-None : goal.returns-in-None
returns-in-None g c = record {
  serves = λ complete. serves _ _ _ _ _ _ _ (rw (← (rw c.deref.ensures.value at c.in-Ok.ensures), c.in-None.is) (says_usage _ _ c.faulty_usage.ensures)) c.give-in-None.ensures;
  laws = laws;
}
