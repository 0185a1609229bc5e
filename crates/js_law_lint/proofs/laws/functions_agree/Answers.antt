use Rattle.std.proofs.Common.{refl}
use Rattle.object_heap.specs.Fresh.{roots}
use Rattle.js_lint.specs.Tables.{members}
use Rattle.js_law_lint.proofs.laws.functions_agree.Goals as goal

pub returns : goal.returns
unfolding members roots
returns c = refl
