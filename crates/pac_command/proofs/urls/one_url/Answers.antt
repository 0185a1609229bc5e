use Rattle.std.proofs.lemmas.Result.{err_from_is_err_and}
use Rattle.pac_plan.proofs.GivesUp.{gives_up}
use Rattle.pac_ask.specs.Talks.{talks}
use Rattle.pac_command.specs.Urls.{url_then}
use Rattle.pac_command.proofs.urls.one_url.Goals as goal

-- for want of memory
pub returns-in_err-only-in-Ok : goal.returns-in_err-only-in-Ok
returns-in_err-only-in-Ok c = λ files.
    let p = err_from_is_err_and c.from_residual.result c.from_residual.ensures.1 in
    rw (p.1, p.2) (λ o next. gives_up talks (url_then c.args.given.now c.args.url.now next) _)

pub returns-in-Err-Memory : goal.returns-in-Err-Memory
returns-in-Err-Memory c = λ files o next. gives_up talks (url_then c.args.given.now c.args.url.now next) _
