use Rattle.std.proofs.Common.{◌∙◌, ap}
use Rattle.stub_poller.specs.Slots.{flying}
use Rattle.stub_poller.proofs.Rows.{flying-filter}
use Rattle.stub_poller.proofs.flights.Flights.make_place.Goals as goal

pub returns-in_err-reserve : goal.returns-in_err-reserve
returns-in_err-reserve c =
    ap flying (c.in_err-reserve.ensures.items ∙ c.drop_gaps.ensures.after) ∙ flying-filter c.self.inside.row.items ∙ c.self.view_is

pub returns : goal.returns
returns c = ap flying (c.in_ok-reserve.ensures.items ∙ c.drop_gaps.ensures.after) ∙ flying-filter c.self.inside.row.items ∙ c.self.view_is
