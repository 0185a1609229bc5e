-- The exit status of the program.
use Rattle.std.specs.Prelude.{ℕ}
use Rattle.pac_plan.specs.declared.status.Status.{Status}
use Rattle.pac_plan.specs.declared.status.Status.TheVariants as status

abbrev pub exit_number : Status → ℕ
exit_number status.Good = 0
exit_number status.ScriptFault = 1
exit_number status.Usage = 2
exit_number status.ReadFault = 3
exit_number status.Refused = 4
exit_number status.Unanswered = 5
exit_number status.LinkFault = 6
exit_number status.WriteFault = 7
exit_number status.Memory = 8
