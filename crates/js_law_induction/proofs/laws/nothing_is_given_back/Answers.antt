use Rattle.js_law_induction.proofs.Scripts.{given_back}
use Rattle.js_law_induction.proofs.laws.nothing_is_given_back.Goals as goal

pub returns : goal.returns
returns c = given_back
