use Rattle.std.proofs.Common.{refl}
use Rattle.js_lint.specs.Tables.{members}
use Rattle.js_lint.proofs.lookups.members.Goals as goal

pub returns : goal.returns
unfolding members
returns c = refl
