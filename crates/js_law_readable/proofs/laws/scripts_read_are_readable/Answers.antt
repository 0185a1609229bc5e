use Rattle.js_law_readable.proofs.ReadScripts.{scripts_law}
use Rattle.js_law_readable.proofs.laws.scripts_read_are_readable.Goals as goal

pub returns : goal.returns
returns c = scripts_law
