use Rattle.std.proofs.Common.{List, ap, ◌∙◌}
use Rattle.poll_log.specs.declared.flight.Flight.{Flight}
use Rattle.poll_log.specs.Streamed.{truncated_in}
use Rattle.pac_ask.proofs.Steps.{flights_here}
use Rattle.pac_ask.proofs.one_name.OneNamePoller.truncated.Goals as goal

pub returns : goal.returns
returns c task turns s =
    c.truncated.ensures ∙ ap (λ (l : List Flight). truncated_in l c.args.datagram.now) (flights_here _ _ _ _ _ task turns s)
