use Rattle.pac_plan.proofs.GivesUp.{gives_up}
use Rattle.pac_ask.specs.Talks.{talks}
use Rattle.pac_command.specs.Names.{names_then}
use Rattle.pac_command.proofs.inputs.answers_in.Goals as goal

-- for want of memory
pub returns-in-Err-Memory : goal.returns-in-Err-Memory
returns-in-Err-Memory c = λ files o next. gives_up talks (names_then c.args.bytes.now next) _
