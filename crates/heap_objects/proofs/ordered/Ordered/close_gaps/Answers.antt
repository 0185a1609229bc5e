use Rattle.std.proofs.Common.{◌∙◌, is_some, ap, sym, subst, arith}
use Rattle.heap_elements.specs.Places.{NamesDiffer}
use Rattle.heap_objects.specs.Slots.{standing, place_in}
use Rattle.heap_objects.proofs.PlaceLemmas.{standing-closed, place_in-closed}
use Rattle.heap_objects.proofs.ordered.Ordered.close_gaps.Goals as goal

pub move_places-requires-clause-differ : goal.move_places-requires-clause-differ
move_places-requires-clause-differ c =
    let same = ap standing (c.deref.ensures.value ∙ c.drop_gaps.ensures.after) ∙ standing-closed c.self.inside.row.items in
    subst NamesDiffer (sym same) c.self.invariant.differ

pub move_places-requires-clause-same : goal.move_places-requires-clause-same
move_places-requires-clause-same c = λ name.
    ap is_some (c.self.invariant.places name) ∙ place_in-closed c.self.inside.row.items name
    ∙ ap (λ row. is_some (place_in row name)) (sym (c.deref.ensures.value ∙ c.drop_gaps.ensures.after))

pub invariant_of-self : goal.invariant_of-self
invariant_of-self c =
    let same = ap standing c.drop_gaps.ensures.after ∙ standing-closed c.self.inside.row.items in
    record {
      places = λ name. c.move_places.ensures name ∙ ap (λ row. place_in row name) c.deref.ensures.value;
      differ = subst NamesDiffer (sym same) c.self.invariant.differ;
      few = omega (arith, c.drop_gaps.ensures.fewer, c.self.invariant.few);
    }

pub returns : goal.returns
returns c = ap standing c.drop_gaps.ensures.after ∙ standing-closed c.self.inside.row.items ∙ c.self.view_is
