use Rattle.session_core.proofs.Drawing.{at_error, gave_one}
use Rattle.session_core.proofs.settling.await_name.Goals as goal

pub returns-in_err-question-clause-memory : goal.returns-in_err-question-clause-memory
returns-in_err-question-clause-memory g c = at_error c.from_residual.result (gave_one _ _ c.id.result c.id.ensures)
