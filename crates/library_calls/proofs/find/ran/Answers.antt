use Rattle.js_host.specs.Answers.{partly}
use Rattle.library_calls.proofs.find.ran.Goals as goal

pub returns : goal.returns
returns g c = (_, c.run.ensures.answers (partly c.args.known.now) c.new-host.ensures)
