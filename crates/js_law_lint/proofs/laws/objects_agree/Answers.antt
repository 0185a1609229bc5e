use Rattle.std.proofs.Common.{refl}
use Rattle.object_heap.specs.Fresh.{constructors}
use Rattle.js_lint.specs.Tables.{object_members}
use Rattle.js_law_lint.proofs.laws.objects_agree.Goals as goal

pub returns : goal.returns
unfolding object_members constructors
returns c = refl
