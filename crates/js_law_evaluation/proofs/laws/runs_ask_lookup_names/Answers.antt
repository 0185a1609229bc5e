use Rattle.js_law_evaluation.proofs.OfScoping.{by_names-end, by_slots-end}
use Rattle.js_law_evaluation.proofs.OfEvaluation.{tree_by-asks}
use Rattle.js_law_evaluation.proofs.laws.runs_ask_lookup_names.Goals as goal

pub returns-clause-names : goal.returns-clause-names
returns-clause-names c = tree_by-asks by_names-end

pub returns-clause-slots : goal.returns-clause-slots
returns-clause-slots c = tree_by-asks by_slots-end
