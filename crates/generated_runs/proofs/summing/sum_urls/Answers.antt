use Rattle.std.proofs.Common.{map, arith}
use Rattle.std.proofs.lemmas.List.{length-map}
use Rattle.js_interp.specs.Answers.{entry_of}
use Rattle.poll_log.specs.Turns.{turns_of}
use Rattle.url_runs.specs.Runs.{program_runs}
use Rattle.generated_runs.specs.Summing.{sum_plan}
use Rattle.generated_runs.proofs.Ends.{runs_fit}
use Rattle.generated_runs.proofs.Summed.{ends_early, ends_whole, no_output, nowhere}
use Rattle.generated_runs.proofs.summing.sum_urls.Goals as goal

pub returns-in_err-link : goal.returns-in_err-link
returns-in_err-link g c = λ o.
    no_output _ (sum_plan c.args.from c.args.network.answers.now c.args.network.upstream (program_runs c.args.program.now) (map entry_of c.args.entries.items))
    (record o { runs = c.args.runs.now }) c.from_residual.result c.from_residual.ensures.1

pub sum_up-requires : goal.sum_up-requires
sum_up-requires g c =
    let ended = c.in-Ok.ensures nowhere in
    let low = runs_fit (program_runs c.args.program.now) c.args.network.upstream.terms (turns_of ended.0) (map entry_of c.args.entries.items) c.in-Ok.ends.items ended.2 in
    let count = length-map c.args.entries.items entry_of in
    let few = c.requires.few in
    rw c.deref.ensures.value (omega (arith, low, count, few))

pub returns-in-Ok : goal.returns-in-Ok
returns-in-Ok g c = λ o.
    ends_whole c.args.network.answers.now c.args.network.upstream (program_runs c.args.program.now) (map entry_of c.args.entries.items) o
    _ c.end_urls-ended.new.link _ c.end_urls-ended.new.dice c.args.runs.now c.end_urls-ended.new.runs
    c.in_ok-link.ensures c.new-dice.ensures (rw c.requires.known c.log-log.ensures.answered)
    c.requires.addresses c.log-log.ensures.room _ (c.in-Ok.ensures o) c.args.from _ (rw (c.deref.ensures.value, c.count.ensures) at c.sum_up.ensures)

pub returns : goal.returns
returns g c = λ o.
    ends_early c.args.network.answers.now c.args.network.upstream (program_runs c.args.program.now) (map entry_of c.args.entries.items) o
    _ c.end_urls-ended.new.link _ c.end_urls-ended.new.dice c.args.runs.now c.end_urls-ended.new.runs
    c.in_ok-link.ensures c.new-dice.ensures (rw c.requires.known c.log-log.ensures.answered) c.args.from c.in-Err.field-0 (c.in-Err.ensures o)
