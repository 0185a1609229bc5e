use Rattle.std.proofs.Common.{map, subst}
use Rattle.std.proofs.lemmas.Result.{err_from_is_err_and}
use Rattle.batch_text.specs.Batch.{entry_seen}
use Rattle.pac_plan.proofs.GivesUp.{gives_up}
use Rattle.pac_ask.specs.Talks.{talks}
use Rattle.url_runs.specs.Runs.{Work}
use Rattle.pac_command.specs.Plans.{Follows}
use Rattle.pac_plan.specs.Plan.{with_files}
use Rattle.pac_command.specs.Work.{work_of}
use Rattle.pac_command.proofs.Stepping.{work_is}
use Rattle.pac_command.proofs.work.with_urls.Goals as goal

pub returns-in_err-batch : goal.returns-in_err-batch
returns-in_err-batch g c =
    let p = err_from_is_err_and c.from_residual.result c.from_residual.ensures.1 in
    rw (p.1, p.2) (λ o next. c.in_err-batch.ensures o (λ batch. next (work_of c.args.given.now c.args.script batch)))

-- for want of memory
pub returns-in_err-entries : goal.returns-in_err-entries
returns-in_err-entries g c =
    let p = err_from_is_err_and c.from_residual-in_err-entries.result c.from_residual-in_err-entries.ensures.1 in
    rw (p.1, p.2) (λ o next. c.in_ok-batch.ensures o (λ batch. next (work_of c.args.given.now c.args.script batch)) _ _ (gives_up talks (next (work_of c.args.given.now c.args.script (map entry_seen c.in_ok-batch.batch))) _))

pub returns-in_err-program : goal.returns-in_err-program
returns-in_err-program g c =
    let p = err_from_is_err_and c.from_residual-in_err-program.result c.from_residual-in_err-program.ensures.1 in
    rw (p.1, p.2) (λ o next. c.in_ok-batch.ensures o (λ batch. next (work_of c.args.given.now c.args.script batch)) _ _ (gives_up talks (next (work_of c.args.given.now c.args.script (map entry_seen c.in_ok-batch.batch))) _))

pub returns : goal.returns
returns g c = λ o next new made h.
    c.in_ok-batch.ensures o (λ batch. next (work_of c.args.given.now c.args.script batch)) new made
    (subst (λ (work : Work). Follows (next work) (with_files o (g.F.Files.state c.read_urls.new.files)) new made)
    (work_is c.args.given.now c.args.script (record { program = c.in_ok-program.program; batch = c.in_ok-batch.batch; entries = c.in_ok-entries.entries }) c.requires c.in_ok-program.ensures c.in_ok-entries.ensures) h)
