use Rattle.url_runs.specs.Runs.{tree_of}
use Rattle.url_runs.proofs.Outcomes.{gives}
use Rattle.url_runs.proofs.url_run.UrlRunRun.run.Goals as goal

pub returns-in-Done-clause-answer : goal.returns-in-Done-clause-answer
returns-in-Done-clause-answer g c = λ known fresh.
    let done = c.in-Done.ensures.answers known fresh in
    (done.end, gives (tree_of c.args.self.now) known c.in-Done.outcome (g.H.Host.seen c.run.new.host) done, done.is_whole)
