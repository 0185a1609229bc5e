use Rattle.std.proofs.lemmas.Result.{err_from_is_err_and}
use Rattle.pac_words.specs.Views.{source_view}
use Rattle.pac_command.specs.Scripts.{script_from}
use Rattle.pac_command.specs.Work.{urls_with}
use Rattle.pac_command.proofs.Stepping.{step_then}
use Rattle.pac_command.proofs.work.read_work.Goals as goal

pub returns-in_err-script : goal.returns-in_err-script
returns-in_err-script g c =
    let p = err_from_is_err_and c.from_residual.result c.from_residual.ensures.1 in
    rw (p.1, p.2) (λ o next. c.in_err-script.ensures.step o (λ script. urls_with c.args.given.now (source_view c.args.from.now) script next))

pub returns : goal.returns
returns g c =
    step_then (script_from c.args.script.now) (λ script. urls_with c.args.given.now (source_view c.args.from.now) script) _ _ _ c.in_ok-script.script _
    c.in_ok-script.ensures.step c.with_urls.ensures
