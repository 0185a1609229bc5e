use Rattle.std.proofs.Common.{refl}
use Rattle.js_lint.specs.Tables.{globals}
use Rattle.js_lint.proofs.lookups.globals.Goals as goal

pub returns : goal.returns
unfolding globals
returns c = refl
