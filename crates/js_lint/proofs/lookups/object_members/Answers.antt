use Rattle.std.proofs.Common.{refl}
use Rattle.js_lint.specs.Tables.{object_members}
use Rattle.js_lint.proofs.lookups.object_members.Goals as goal

pub returns : goal.returns
unfolding object_members
returns c = refl
