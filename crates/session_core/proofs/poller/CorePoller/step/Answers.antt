use Rattle.std.proofs.Common.{refl}
use Rattle.session_core.proofs.Drawing.{at_error}
use Rattle.session_core.proofs.Turning.{stepped_whole}
use Rattle.session_core.proofs.poller.CorePoller.step.Goals as goal

pub returns-clause-ok : goal.returns-clause-ok
returns-clause-ok g c task turns s = stepped_whole _ _ _ _ _ _ _ _ _ _ _ _ refl refl (c.in_ok-sent.ensures.ok task turns s.stands)

pub returns-in_err-sent-clause-memory : goal.returns-in_err-sent-clause-memory
returns-in_err-sent-clause-memory g c = at_error c.from_residual.result (λ task turns s. c.in_err-sent.ensures.memory task turns s.stands)
