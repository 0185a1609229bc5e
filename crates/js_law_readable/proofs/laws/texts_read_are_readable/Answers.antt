use Rattle.js_law_readable.proofs.ReadScripts.{texts_law}
use Rattle.js_law_readable.proofs.laws.texts_read_are_readable.Goals as goal

pub returns : goal.returns
returns c = texts_law
