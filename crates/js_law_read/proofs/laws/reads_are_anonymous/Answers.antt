use Rattle.js_law_read.proofs.Anonymous.{reads_anonymous}
use Rattle.js_law_read.proofs.laws.reads_are_anonymous.Goals as goal

pub returns : goal.returns
returns c = reads_anonymous
