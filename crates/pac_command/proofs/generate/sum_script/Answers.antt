use Rattle.std.proofs.Common.{ap}
use Rattle.std.proofs.lemmas.Result.{err_from_is_err_and}
use Rattle.js_evaluation.specs.Evaluation.{run_by_names}
use Rattle.pac_plan.proofs.GivesUp.{gives_up}
use Rattle.url_runs.specs.Runs.{program_runs}
use Rattle.memory_talk.proofs.Addresses.{sites_have}
use Rattle.memory_talk.proofs.Answering.{answering}
use Rattle.pac_generate.specs.declared.generating.Generated.{Generated}
use Rattle.pac_command.specs.Generate.{generated_batch, sum_generated, usual_given, usual_upstream}
use Rattle.pac_command.specs.Urls.{entries_for}
use Rattle.pac_command.proofs.Stepping.{runs_are}
use Rattle.pac_command.proofs.Generated.{few_entries, summed_is}
use Rattle.pac_command.proofs.generate.sum_script.Goals as goal

-- for want of memory
pub returns-in_err-entries : goal.returns-in_err-entries
returns-in_err-entries g c = λ o.
    let p = err_from_is_err_and c.from_residual.result c.from_residual.ensures.1 in
    rw p.1 (gives_up answering (sum_generated c.args.from c.args.script) _)

pub returns-in_err-program : goal.returns-in_err-program
returns-in_err-program g c = λ o.
    let p = err_from_is_err_and c.from_residual-in_err-program.result c.from_residual-in_err-program.ensures.1 in
    rw p.1 (gives_up answering (sum_generated c.args.from c.args.script) _)

pub sum_urls-output-requires-clause-addresses : goal.sum_urls-output-requires-clause-addresses
sum_urls-output-requires-clause-addresses g c = rw c.requires.input (sites_have c.args.from.seed c.args.from.sites)

pub sum_urls-output-requires-clause-few : goal.sum_urls-output-requires-clause-few
sum_urls-output-requires-clause-few g c =
    few_entries usual_given c.args.from.seed c.args.from.sites c.in_ok-entries.entries.items c.requires.few (rw (c.requires.input, c.usual_given.ensures) at c.in_ok-entries.ensures)

pub returns : goal.returns
returns g c = λ o.
    summed_is c.args.from _ _ _ usual_upstream (program_runs c.in_ok-program.program) (run_by_names c.args.script) _ (entries_for usual_given (generated_batch c.args.from.seed c.args.from.sites)) _ _ _
    (ap (λ (g : Generated). g.map) c.requires.input) c.usual_upstream.ensures.same (runs_are c.args.script c.in_ok-program.program c.requires.read c.in_ok-program.ensures) (rw (c.requires.input, c.usual_given.ensures) at c.in_ok-entries.ensures) (c.sum_urls-output.ensures o)
