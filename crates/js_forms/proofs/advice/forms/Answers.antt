use Rattle.std.proofs.Common.{refl}
use Rattle.js_forms.specs.Forms.{forms}
use Rattle.js_forms.proofs.advice.forms.Goals as goal

pub returns : goal.returns
unfolding forms
returns c = refl
