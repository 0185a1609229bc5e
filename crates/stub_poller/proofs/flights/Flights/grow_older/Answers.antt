use Rattle.std.proofs.Common.{◌^◌, ◌<◌, ◌∙◌, ap, arith, map}
use Rattle.std.proofs.lemmas.List.{with_items_is}
use Rattle.std.proofs.lemmas.List.Elements.{All-same}
use Rattle.std.specs.Vec.{with_items}
use Rattle.stub_poller.specs.State.{aged}
use Rattle.stub_poller.specs.Slots.{IsLow, flying, older_here, places_at}
use Rattle.stub_poller.proofs.Rows.{all_low, flying-older, older_indexed}
use Rattle.stub_poller.proofs.flights.Flights.grow_older.Goals as goal

pub all_older-requires : goal.all_older-requires
all_older-requires c =
    All-same IsLow c.deref_mut.result.now c.self.inside.row.items c.deref_mut.ensures.value
    (all_low c.self.inside.row.items (All-same (λ f. f.age < 2 ^ 31) (flying c.self.inside.row.items) c.args.self.now c.self.view_is c.requires))

pub invariant_of-self : goal.invariant_of-self
invariant_of-self c =
    let row = c.self.inside.row in
    older_indexed (places_at c.self.inside.places) row.items (with_items row c.all_older.new.row).items
    (with_items_is row c.all_older.new.row (omega arith) ∙ c.all_older.ensures ∙ ap (map older_here) c.deref_mut.ensures.value)
    c.self.invariant

pub returns : goal.returns
returns c =
    let row = c.self.inside.row in
    ap flying (with_items_is row c.all_older.new.row (omega arith) ∙ c.all_older.ensures ∙ ap (map older_here) c.deref_mut.ensures.value)
    ∙ flying-older row.items ∙ ap (map aged) c.self.view_is
