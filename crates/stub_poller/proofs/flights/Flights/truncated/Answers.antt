use Rattle.std.proofs.Common.{◌∙◌, None, Some, ap, arith, sym}
use Rattle.std.specs.Option.{option_copied}
use Rattle.dns_message.specs.Numbers.{number_at}
use Rattle.stub_poller.specs.Slots.{cut_here, first_in}
use Rattle.stub_poller.proofs.Truncating.{short_cut}
use Rattle.stub_poller.proofs.Rows.{cut_is, cut_other, unplaced}
use Rattle.stub_poller.proofs.flights.Flights.truncated.Goals as goal

pub returns-in_err-number : goal.returns-in_err-number
returns-in_err-number c =
    let short = c.number_of.ensures.short c.in_err-number.was in
    c.from_residual.ensures ∙ sym (short_cut c.args.datagram.now c.args.self.now (omega arith))

pub returns-in_err-places : goal.returns-in_err-places
returns-in_err-places c =
    let none = unplaced (cut_here c.args.datagram.now) (number_at c.args.datagram.now 0) c.in_ok-number.number (cut_other c.args.datagram.now) c.in_ok-number.ensures.number c.self.inside.places c.self.inside.row.items c.self.invariant (sym c.get.ensures.value ∙ ap option_copied c.in_err-places.was) in
    c.from_residual-in_err-places.ensures ∙ cut_is c.args.datagram.now c.self.inside.row.items c.args.self.now None c.self.view_is (sym none)

pub returns-in_err-found : goal.returns-in_err-found
returns-in_err-found c =
    c.from_residual-in_err-found.ensures
    ∙ cut_is c.args.datagram.now c.self.inside.row.items c.args.self.now None c.self.view_is
    (sym c.in_err-found.was ∙ c.first_truncated.ensures ∙ ap (first_in (cut_here c.args.datagram.now)) c.deref.ensures.value)

pub returns : goal.returns
returns c =
    cut_is c.args.datagram.now c.self.inside.row.items c.args.self.now (Some c.in_ok-found.found) c.self.view_is
    (sym c.in_ok-found.was ∙ c.first_truncated.ensures ∙ ap (first_in (cut_here c.args.datagram.now)) c.deref.ensures.value)
