use Rattle.std.proofs.Common.{◌∙◌, slice_get, sym, ap}
use Rattle.heap_elements.specs.Properties.{property_at}
use Rattle.heap_objects.specs.Slots.{property_in}
use Rattle.heap_objects.proofs.PlaceLemmas.{no_property, found_at}
use Rattle.heap_objects.proofs.ordered.Ordered.get.Goals as goal

pub returns-in-None : goal.returns-in-None
returns-in-None c =
    let name = c.args.name.now in
    let none = sym (c.self.invariant.places name) ∙ sym c.get.ensures.value ∙ sym c.copied.ensures ∙ c.in-None.is in
    sym (no_property c.self.inside.row.items name none) ∙ ap (λ ps. property_at ps name) c.self.view_is

pub returns-in-Some : goal.returns-in-Some
returns-in-Some c =
    let name = c.args.name.now in
    let place = sym (c.self.invariant.places name) ∙ sym c.get.ensures.value ∙ sym c.copied.ensures ∙ c.in-Some.is in
    let found = found_at c.self.inside.row.items name c.in-Some.place place in
    c.property_at_place.ensures
    ∙ ap (λ row. property_in (slice_get row c.in-Some.place)) c.deref.ensures.value
    ∙ ap property_in found.stands
    ∙ sym found.named
    ∙ ap (λ ps. property_at ps name) c.self.view_is
