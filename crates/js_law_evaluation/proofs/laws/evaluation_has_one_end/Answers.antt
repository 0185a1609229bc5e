use Rattle.js_law_evaluation.proofs.OfScoping.{by_names-end, by_slots-end}
use Rattle.js_law_evaluation.proofs.OfEvaluation.{evaluation-ends}
use Rattle.js_law_evaluation.proofs.laws.evaluation_has_one_end.Goals as goal

pub returns-clause-names : goal.returns-clause-names
returns-clause-names c = λ functions room.
    let ends = evaluation-ends by_names-end functions room in
    (λ part. (ends.value part).one_end, λ cx e. (ends.reference cx e).one_end)

pub returns-clause-slots : goal.returns-clause-slots
returns-clause-slots c = λ functions room.
    let ends = evaluation-ends by_slots-end functions room in
    (λ part. (ends.value part).one_end, λ cx e. (ends.reference cx e).one_end)
