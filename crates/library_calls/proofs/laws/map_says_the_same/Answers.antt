use Rattle.library_calls.proofs.Saying.{map_says, told_answers_alike}
use Rattle.library_calls.proofs.laws.map_says_the_same.Goals as goal

pub returns-clause-same : goal.returns-clause-same
returns-clause-same c = map_says

pub returns-clause-alike : goal.returns-clause-alike
returns-clause-alike c = told_answers_alike
