use Rattle.std.proofs.Common.{◌<◌, ◌∙◌, None, Some, ap, arith, length, sym}
use Rattle.std.specs.Option.{option_copied}
use Rattle.dns_message.specs.Numbers.{number_at}
use Rattle.stub_poller.specs.Slots.{first_in, places_at, replied}
use Rattle.stub_poller.proofs.FlightLists.{short_answered}
use Rattle.stub_poller.proofs.Rows.{is_found, left_is, replied_other, still_indexed, told_is, unplaced}
use Rattle.stub_poller.proofs.flights.Flights.take_answered.Goals as goal

pub returns-in_err-number-clause-answer : goal.returns-in_err-number-clause-answer
returns-in_err-number-clause-answer c =
    let short = c.number_of.ensures.short c.in_err-number.was in
    c.from_residual.ensures ∙ sym (short_answered c.args.datagram.now c.args.self.now (omega arith)).0

pub returns-in_err-number-clause-taken : goal.returns-in_err-number-clause-taken
returns-in_err-number-clause-taken c =
    let short = c.number_of.ensures.short c.in_err-number.was in
    sym (short_answered c.args.datagram.now c.args.self.now (omega arith)).1

pub returns-in_err-places-clause-answer : goal.returns-in_err-places-clause-answer
returns-in_err-places-clause-answer c =
    let none = unplaced (replied c.args.datagram.now) (number_at c.args.datagram.now 0) c.in_ok-number.number (replied_other c.args.datagram.now) c.in_ok-number.ensures.number c.self.inside.places c.self.inside.row.items c.self.invariant (sym c.get.ensures.value ∙ ap option_copied c.in_err-places.was) in
    c.from_residual-in_err-places.ensures ∙ told_is c.args.datagram.now c.self.inside.row.items c.args.self.now None c.self.view_is (sym none)

pub returns-in_err-places-clause-taken : goal.returns-in_err-places-clause-taken
returns-in_err-places-clause-taken c =
    let none = unplaced (replied c.args.datagram.now) (number_at c.args.datagram.now 0) c.in_ok-number.number (replied_other c.args.datagram.now) c.in_ok-number.ensures.number c.self.inside.places c.self.inside.row.items c.self.invariant (sym c.get.ensures.value ∙ ap option_copied c.in_err-places.was) in
    sym c.self.view_is ∙ left_is c.args.datagram.now c.self.inside.row.items c.args.self.now None 0 c.self.view_is (sym none)

pub returns-in_err-found-clause-answer : goal.returns-in_err-found-clause-answer
returns-in_err-found-clause-answer c =
    c.from_residual-in_err-found.ensures
    ∙ told_is c.args.datagram.now c.self.inside.row.items c.args.self.now None c.self.view_is
    (sym c.in_err-found.was ∙ c.first_answered.ensures ∙ ap (first_in (replied c.args.datagram.now)) c.deref.ensures.value)

pub returns-in_err-found-clause-taken : goal.returns-in_err-found-clause-taken
returns-in_err-found-clause-taken c =
    sym c.self.view_is
    ∙ left_is c.args.datagram.now c.self.inside.row.items c.args.self.now None 0 c.self.view_is
    (sym c.in_err-found.was ∙ c.first_answered.ensures ∙ ap (first_in (replied c.args.datagram.now)) c.deref.ensures.value)

pub index_mut-requires : goal.index_mut-requires
index_mut-requires c =
    let row = c.self.inside.row in
    let found = is_found (replied c.args.datagram.now) row.items c.in_ok-found.found (ap (first_in (replied c.args.datagram.now)) (sym c.deref.ensures.value) ∙ sym c.first_answered.ensures ∙ c.in_ok-found.was) in
    let many = row.ok.0 in
    let within : c.in_ok-found.found.at < length row.items = found.within in
    omega arith

pub invariant_of-self : goal.invariant_of-self
invariant_of-self c =
    still_indexed c.args.datagram.now c.self.inside.row.items c.in_ok-found.found c.in_ok-number.number (places_at c.self.inside.places)
    (ap (first_in (replied c.args.datagram.now)) (sym c.deref.ensures.value) ∙ sym c.first_answered.ensures ∙ c.in_ok-found.was) c.in_ok-number.ensures.number c.self.invariant

pub returns-clause-answer : goal.returns-clause-answer
returns-clause-answer c =
    told_is c.args.datagram.now c.self.inside.row.items c.args.self.now (Some c.in_ok-found.found) c.self.view_is
    (sym c.in_ok-found.was ∙ c.first_answered.ensures ∙ ap (first_in (replied c.args.datagram.now)) c.deref.ensures.value)

pub returns-clause-taken : goal.returns-clause-taken
returns-clause-taken c =
    left_is c.args.datagram.now c.self.inside.row.items c.args.self.now (Some c.in_ok-found.found) c.in_ok-number.number c.self.view_is
    (sym c.in_ok-found.was ∙ c.first_answered.ensures ∙ ap (first_in (replied c.args.datagram.now)) c.deref.ensures.value)
