use Rattle.std.proofs.Common.{◌∙◌, ap, arith, filter, map}
use Rattle.std.proofs.lemmas.List.{with_items_is}
use Rattle.std.specs.Vec.{with_items}
use Rattle.stub_poller.specs.State.{is_young}
use Rattle.stub_poller.specs.Slots.{flying, places_at, young_here}
use Rattle.stub_poller.proofs.Rows.{flying-young, young_indexed}
use Rattle.stub_poller.proofs.flights.Flights.keep_young.Goals as goal

pub invariant_of-self : goal.invariant_of-self
invariant_of-self c =
    let row = c.self.inside.row in
    young_indexed c.args.limit (places_at c.self.inside.places) row.items (with_items row c.all_young.new.row).items
    (with_items_is row c.all_young.new.row (omega arith) ∙ c.all_young.ensures ∙ ap (map (young_here c.args.limit)) c.deref_mut.ensures.value)
    c.self.invariant

pub returns : goal.returns
returns c =
    let row = c.self.inside.row in
    ap flying (with_items_is row c.all_young.new.row (omega arith) ∙ c.all_young.ensures ∙ ap (map (young_here c.args.limit)) c.deref_mut.ensures.value)
    ∙ flying-young c.args.limit row.items ∙ ap (filter (is_young c.args.limit)) c.self.view_is
