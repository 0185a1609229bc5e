use Rattle.std.proofs.Common.{refl}
use Rattle.object_heap.specs.Fresh.{roots}
use Rattle.js_lint.specs.Tables.{globals}
use Rattle.js_law_lint.proofs.laws.globals_agree.Goals as goal

pub returns : goal.returns
unfolding globals roots
returns c = refl
