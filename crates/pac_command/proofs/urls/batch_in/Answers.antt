use Rattle.pac_plan.proofs.GivesUp.{gives_up}
use Rattle.pac_ask.specs.Talks.{talks}
use Rattle.pac_command.specs.Urls.{batch_then}
use Rattle.pac_command.proofs.urls.batch_in.Goals as goal

-- for want of memory
pub returns-in-Err-Memory : goal.returns-in-Err-Memory
returns-in-Err-Memory c = λ files o next. gives_up talks (batch_then c.args.given.now c.args.bytes.now next) _
