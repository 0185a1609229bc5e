use Rattle.std.proofs.Common.{◌≡◌, ◌∷◌, ◌++◌, [], ◌∙◌, ℕ, List, ap, arith, cond, length, nat_eq}
use Rattle.poll_log.specs.declared.flight.Flight.{Flight}
use Rattle.stub_poller.specs.declared.slot.Slot.{Slot}
use Rattle.stub_poller.specs.declared.slot.Slot.TheVariants.{Flying}
use Rattle.stub_poller.specs.Slots.{flying, places_at}
use Rattle.stub_poller.proofs.Rows.{flying-append, more_indexed}
use Rattle.stub_poller.proofs.flights.Flights.push.Goals as goal

pub unwrap-requires : goal.unwrap-requires
unwrap-requires c = c.push.ensures.succeeds (omega (arith, c.in_ok-reserve.ensures.ok))

pub invariant_of-self-2 : goal.invariant_of-self-2
invariant_of-self-2 c =
    let row = c.self.inside.row.items in
    let asked : Slot = Flying (record { question = c.args.question; age = 0 }) in
    let after : c.push.new.self.items ≡ row ++ asked ∷ [] = rw (c.unwrap.ensures, c.in_ok-reserve.ensures.items) at c.push.ensures.items in
    let place : c.len.result ≡ length row = c.len.ensures ∙ c.reserve.new.self.ok.0 ∙ ap length c.in_ok-reserve.ensures.items in
    rw after
    (more_indexed (places_at c.self.inside.places) (places_at c.add_place.new.index) row asked c.self.invariant
    (λ n. c.in_ok-add_place.ensures.added n ∙ ap (λ (k : ℕ). places_at c.self.inside.places n ++ cond (nat_eq c.args.question.id n) (k ∷ []) []) place))

pub returns-clause-added : goal.returns-clause-added
returns-clause-added c =
    let row = c.self.inside.row.items in
    let asked : Slot = Flying (record { question = c.args.question; age = 0 }) in
    let after : c.push.new.self.items ≡ row ++ asked ∷ [] = rw (c.unwrap.ensures, c.in_ok-reserve.ensures.items) at c.push.ensures.items in
    ap flying after ∙ flying-append row (asked ∷ []) ∙ ap (λ (l : List Flight). l ++ record { question = c.args.question; age = 0 } ∷ []) (c.self.view_is ∙ c.in_ok-make_place.ensures)
