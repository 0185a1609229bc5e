use Rattle.std.proofs.Common.{refl}
use Rattle.object_heap.specs.Fresh.{roots, prototypes}
use Rattle.js_lint.specs.Tables.{members}
use Rattle.js_law_lint.proofs.laws.members_agree.Goals as goal

pub returns : goal.returns
unfolding members roots prototypes
returns c = refl
