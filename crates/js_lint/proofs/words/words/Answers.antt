use Rattle.std.proofs.Common.{refl}
use Rattle.js_lint.specs.Advice.{rows}
use Rattle.js_lint.proofs.words.words.Goals as goal

pub returns : goal.returns
unfolding rows
returns c = refl
