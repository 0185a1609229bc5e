use Rattle.js_law_evaluation.proofs.OfScoping.{by_names-end, by_slots-end}
use Rattle.js_law_evaluation.proofs.OfEvaluation.{runs-end}
use Rattle.js_law_evaluation.proofs.laws.runs_have_one_end.Goals as goal

pub returns-clause-names : goal.returns-clause-names
returns-clause-names c = λ ss functions entry. (runs-end by_names-end functions entry ss).one_end

pub returns-clause-slots : goal.returns-clause-slots
returns-clause-slots c = λ ss functions entry. (runs-end by_slots-end functions entry ss).one_end
