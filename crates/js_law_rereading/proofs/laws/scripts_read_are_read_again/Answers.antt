use Rattle.js_law_rereading.proofs.Rereading.{scripts_law}
use Rattle.js_law_rereading.proofs.laws.scripts_read_are_read_again.Goals as goal

pub returns : goal.returns
returns c = scripts_law
