use Rattle.js_law_names.proofs.ReadRuns.{reads_by_names}
use Rattle.js_law_names.proofs.laws.reads_run_by_names.Goals as goal

pub returns : goal.returns
returns c = reads_by_names
