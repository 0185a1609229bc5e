use Rattle.std.proofs.Common.{ap, not, ◌∙◌}
use Rattle.session_core.proofs.Turning.{waits_is}
use Rattle.session_core.proofs.Waits.{empty_is}
use Rattle.session_core.proofs.poller.CorePoller.ended.Goals as goal

pub returns : goal.returns
returns g c task turns s =
    empty_is c.args.self.now.sessions.roster c.is_empty.result (c.args.self.now.sessions.kept s.whole) c.is_empty.ensures.none c.is_empty.ensures.some
    ∙ ap not (waits_is _ _ _ _ task turns s.stands)
