use Rattle.std.proofs.lemmas.Result.{err_from_is_err_and}
use Rattle.pac_plan.proofs.GivesUp.{gives_up}
use Rattle.pac_ask.specs.Talks.{talks}
use Rattle.pac_command.specs.Scripts.{script_then}
use Rattle.pac_command.proofs.inputs.script_in.Goals as goal

-- for want of memory
pub returns-in_err-source-clause-step : goal.returns-in_err-source-clause-step
returns-in_err-source-clause-step c = λ files.
    let p = err_from_is_err_and c.from_residual.result c.from_residual.ensures.1 in
    rw (p.1, p.2) (λ o next. gives_up talks (script_then c.args.bytes.now next) _)

pub returns-clause-step : goal.returns-clause-step
returns-clause-step c = λ files o next. gives_up talks (script_then c.args.bytes.now next) _

pub returns-in-Ok-clause-read : goal.returns-in-Ok-clause-read
returns-in-Ok-clause-read c = (_, c.in-Ok.ensures)
