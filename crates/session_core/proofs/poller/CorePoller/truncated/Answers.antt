use Rattle.std.proofs.Common.{List, ap, ◌∙◌}
use Rattle.poll_log.specs.declared.flight.Flight.{Flight}
use Rattle.poll_log.specs.Streamed.{truncated_in}
use Rattle.session_core.proofs.Turning.{flights_are}
use Rattle.session_core.proofs.poller.CorePoller.truncated.Goals as goal

pub returns : goal.returns
returns g c task turns s =
    c.truncated.ensures ∙ ap (λ (l : List Flight). truncated_in l c.args.datagram.now) (flights_are _ _ _ _ task turns s.stands)
