use Rattle.std.proofs.Common.{sym, ap, ◌∙◌}
use Rattle.js_host.specs.Seen.{Seen}
use Rattle.js_interp.proofs.Runs.{answers_done, answers_missing}
use Rattle.js_interp.proofs.loaded_run.run_loaded.Goals as goal

pub returns-in-Ok-clause-answers : goal.returns-in-Ok-clause-answers
returns-in-Ok-clause-answers g c = λ known same.
    answers_done _ known _ same _ (record { ending = c.in-Ok.ending; alerts = c.go_on.new.alerts }) (c.in-Ok.ensures.ends known same)
    (c.in-Ok.ensures.keeps (c.new-alerts.ensures ∙ sym (ap (λ (s : Seen). s.alerts) same)))

pub returns-in-Err-Missing-clause-answers : goal.returns-in-Err-Missing-clause-answers
returns-in-Err-Missing-clause-answers g c = λ known same.
    rw c.in-Err-Missing.field-0-is (answers_missing _ known _ same _ c.in-Err-Missing.name (rw c.in-Err-Missing.field-0-is at (c.in-Err-Missing.ensures.ends known same)))
