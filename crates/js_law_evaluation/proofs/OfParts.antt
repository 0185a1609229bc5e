-- Parts within that have one end and ask for lookup names alone.
use Rattle.js_tree.specs.Tree.{ExpressionTree}
use Rattle.js_evaluation.specs.Objects.{Context}
use Rattle.js_evaluation.specs.Parts.{Part, Within}
use Rattle.js_law_evaluation.proofs.OfState.{Ends}

-- What evaluation makes of the parts within has one end and asks for lookup names alone.
pub record WithinEnds (go : Within) : Type 0 where
  pub value : (part : Part) → Ends (go.value part)
  pub reference : (cx : Context) (e : ExpressionTree) → Ends (go.reference cx e)
