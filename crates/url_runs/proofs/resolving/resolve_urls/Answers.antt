use Rattle.std.proofs.Common.{map}
use Rattle.js_interp.specs.Answers.{entry_of}
use Rattle.batch_text.specs.Batch.{entry_seen}
use Rattle.url_runs.specs.Runs.{program_runs}
use Rattle.url_runs.proofs.AllEnds.{follows}
use Rattle.url_runs.proofs.resolving.resolve_urls.Goals as goal

pub returns : goal.returns
returns g c = λ complete o.
    follows c.args.upstream (program_runs c.args.work.program) (map entry_of c.args.work.entries.items) _ _ complete (map entry_seen c.args.work.batch) _ _
    (c.end_urls-ended.ensures o) c.resolved.ensures
