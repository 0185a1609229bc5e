use Rattle.std.proofs.Common.{◌≡◌, ◌<◌, ap, arith, length, length-append, map, refl, subst, ◌∙◌, ℕ, List}
use Rattle.std.specs.List.{All, filter}
use Rattle.std.proofs.lemmas.List.{length-map}
use Rattle.poll_log.specs.declared.flight.Flight.{Flight}
use Rattle.stub_poller.specs.State.{aged, is_over, is_young, name_of}
use Rattle.stub_poller.proofs.FlightLists.{all_young, young_and_over}
use Rattle.stub_poller.proofs.stub.Stub.on_beat.Goals as goal

pub add_names-requires : goal.add_names-requires
add_names-requires c =
    let before = c.self.inside.flights in
    let flights = c.grow_older.new.self in
    let limit = c.limit-limit.result in
    let many : length flights ≡ length before = ap length c.grow_older.ensures ∙ length-map before aged in
    let split = young_and_over limit flights (filter (is_young limit) flights) refl in
    let died = ap length (c.deref.ensures.value ∙ c.list_deaths.ensures.listed ∙ ap (λ (l : List Flight). map name_of (filter (is_over limit) l)) c.slots-2.ensures) in
    record { room = omega (arith, c.self.invariant.dead) }

pub invariant_of-self : goal.invariant_of-self
invariant_of-self c =
    let before = c.self.inside.flights in
    let flights = c.grow_older.new.self in
    let kept = c.keep_young.new.self in
    let limit = c.limit-limit.result in
    let many : length flights ≡ length before = ap length c.grow_older.ensures ∙ length-map before aged in
    let split = young_and_over limit flights kept c.keep_young.ensures in
    let died = ap length (c.deref.ensures.value ∙ c.list_deaths.ensures.listed ∙ ap (λ (l : List Flight). map name_of (filter (is_over limit) l)) c.slots-2.ensures) in
    let added = ap length c.add_names.ensures.added ∙ length-append c.self.inside.dead.items c.deref.result.now in
    let were = c.self.inside.dead.ok.0 in
    let are = c.add_names.new.list.ok.0 in
    record {
      terms = c.self.invariant.terms;
      young = subst (λ (l : ℕ). All (λ f. f.age < l) kept) c.limit-limit.ensures (all_young limit flights kept c.keep_young.ensures);
      resend = omega (arith, c.self.invariant.resend, c.list_resends.ensures.capacity);
      dying = omega (arith, c.self.invariant.dying, c.list_deaths.ensures.capacity);
      dead = omega (arith, c.self.invariant.dead, c.add_names.ensures.capacity);
    }
