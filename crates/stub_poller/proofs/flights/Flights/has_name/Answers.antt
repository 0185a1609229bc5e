use Rattle.std.proofs.Common.{◌∙◌, ap}
use Rattle.std.specs.List.{list_any}
use Rattle.pac_names.specs.Comparing.{same_name}
use Rattle.poll_log.specs.declared.flight.Flight.{Flight}
use Rattle.stub_poller.specs.Slots.{named_here}
use Rattle.stub_poller.proofs.Rows.{named_in}
use Rattle.stub_poller.proofs.flights.Flights.has_name.Goals as goal

pub returns : goal.returns
returns c =
    c.has_name.ensures
    ∙ ap (list_any (named_here c.args.name.now)) c.deref.ensures.value
    ∙ named_in c.args.name.now c.self.inside.row.items
    ∙ ap (list_any (λ (f : Flight). same_name f.question.name c.args.name.now)) c.self.view_is
