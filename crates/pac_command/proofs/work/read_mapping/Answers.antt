use Rattle.std.proofs.lemmas.Result.{err_from_is_err_and}
use Rattle.pac_words.specs.Views.{source_view}
use Rattle.pac_command.specs.Work.{names_with, urls_with}
use Rattle.pac_command.proofs.work.read_mapping.Goals as goal

pub returns-in_err-script : goal.returns-in_err-script
returns-in_err-script g c =
    let p = err_from_is_err_and c.from_residual.result c.from_residual.ensures.1 in
    rw (p.1, p.2) (λ o next. c.in_err-script.ensures.step o (λ script. names_with c.args.given.now c.args.names.now (source_view c.args.from.now) script next))

pub returns-in_err-answers : goal.returns-in_err-answers
returns-in_err-answers g c =
    let p = err_from_is_err_and c.from_residual-in_err-answers.result c.from_residual-in_err-answers.ensures.1 in
    rw (p.1, p.2) (λ o next.
    c.in_ok-script.ensures.step o (λ script. names_with c.args.given.now c.args.names.now (source_view c.args.from.now) script next) _ _
    (c.in_err-answers.ensures o (λ answers. urls_with c.args.given.now (source_view c.args.from.now) c.in_ok-script.script (λ work. next (answers, work)))))

pub returns-in_err-work : goal.returns-in_err-work
returns-in_err-work g c =
    let p = err_from_is_err_and c.from_residual-in_err-work.result c.from_residual-in_err-work.ensures.1 in
    rw (p.1, p.2) (λ o next.
    c.in_ok-script.ensures.step o (λ script. names_with c.args.given.now c.args.names.now (source_view c.args.from.now) script next) _ _
    (c.in_ok-answers.ensures o (λ answers. urls_with c.args.given.now (source_view c.args.from.now) c.in_ok-script.script (λ work. next (answers, work))) _ _
    (c.in_err-work.ensures o (λ work. next (c.in_ok-answers.answers, work)))))

pub returns : goal.returns
returns g c = λ o next new made h.
    c.in_ok-script.ensures.step o (λ script. names_with c.args.given.now c.args.names.now (source_view c.args.from.now) script next) _ _
    (c.in_ok-answers.ensures o (λ answers. urls_with c.args.given.now (source_view c.args.from.now) c.in_ok-script.script (λ work. next (answers, work))) _ _
    (c.in_ok-work.ensures o (λ work. next (c.in_ok-answers.answers, work)) _ _ h))
