use Rattle.js_host.specs.Answers.{wholly}
use Rattle.js_interp.specs.Answers.{entry_of}
use Rattle.url_runs.specs.Runs.{program_runs}
use Rattle.url_runs.proofs.Outcomes.{never_stops, outcome_is}
use Rattle.url_runs.proofs.mapping.run_against.Goals as goal

pub returns-in-Done-clause-outcome : goal.returns-in-Done-clause-outcome
returns-in-Done-clause-outcome g c =
    outcome_is (program_runs c.args.program.now.program.now) (entry_of c.args.entry.now) c.args.answers.now c.in-Done.outcome _
    (c.in-Done.ensures.answers (wholly c.args.answers.now) c.new-host.ensures)

-- the host knows every name
pub unreachable-requires : goal.unreachable-requires
unreachable-requires g c = never_stops c.args.answers.now _ _ _ (c.in-Missing.ensures.answers (wholly c.args.answers.now) c.new-host.ensures)
