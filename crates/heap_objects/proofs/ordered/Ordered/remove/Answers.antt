use Rattle.std.proofs.Common.{◌∙◌, None, sym, ap, subst}
use Rattle.std.specs.Ordering.{nat_cmp}
use Rattle.std.specs.Cmp.Lexicographic.{slice_cmp}
use Rattle.std.specs.BTreeMap.{get}
use Rattle.heap_elements.specs.Properties.{without_property}
use Rattle.heap_objects.specs.Slots.{standing, IsIndexOf}
use Rattle.heap_objects.proofs.PlaceLemmas.{no_property, taken_away, kept, index-same, index-taken_away}
use Rattle.heap_elements.proofs.RowLemmas.{without_property-missing}
use Rattle.heap_objects.proofs.ordered.Ordered.remove.Goals as goal

pub invariant_of-self : goal.invariant_of-self
invariant_of-self c =
    let before = get (slice_cmp nat_cmp) c.self.inside.places in
    let after = get (slice_cmp nat_cmp) c.remove_place.new.places in
    let none = sym c.remove_place.ensures.place ∙ c.in_default.is in
    index-same before c.self.inside.row.items after c.self.invariant (kept before c.args.name.now None after none c.remove_place.ensures.after)

pub returns-in_default : goal.returns-in_default
returns-in_default c =
    let name = c.args.name.now in
    let none = sym (c.self.invariant.places name) ∙ sym c.remove_place.ensures.place ∙ c.in_default.is in
    sym (ap (λ ps. without_property ps name) (sym c.self.view_is) ∙ without_property-missing (standing c.self.inside.row.items) name (no_property c.self.inside.row.items name none))

pub invariant_of-self-then-len : goal.invariant_of-self-then-len
invariant_of-self-then-len c =
    let found = sym c.remove_place.ensures.place ∙ c.in-Some.is in
    subst (IsIndexOf (get (slice_cmp nat_cmp) c.remove_place.new.places)) (sym c.write_slot.ensures)
    (index-taken_away _ c.self.inside.row.items c.args.name.now c.in-Some.place _ c.self.invariant found c.remove_place.ensures.after)

pub invariant_of-self-else-len : goal.invariant_of-self-else-len
invariant_of-self-else-len c =
    let found = sym c.remove_place.ensures.place ∙ c.in-Some.is in
    subst (IsIndexOf (get (slice_cmp nat_cmp) c.remove_place.new.places)) (sym c.write_slot.ensures)
    (index-taken_away _ c.self.inside.row.items c.args.name.now c.in-Some.place _ c.self.invariant found c.remove_place.ensures.after)

pub returns-then-len : goal.returns-then-len
returns-then-len c =
    let place = sym (c.self.invariant.places c.args.name.now) ∙ sym c.remove_place.ensures.place ∙ c.in-Some.is in
    let gone = taken_away c.self.inside.row.items c.args.name.now c.in-Some.place c.self.invariant.differ place in
    c.close_gaps.ensures ∙ ap standing c.write_slot.ensures ∙ gone.listed ∙ ap (λ ps. without_property ps c.args.name.now) c.self.view_is

pub returns-else-len : goal.returns-else-len
returns-else-len c =
    let place = sym (c.self.invariant.places c.args.name.now) ∙ sym c.remove_place.ensures.place ∙ c.in-Some.is in
    let gone = taken_away c.self.inside.row.items c.args.name.now c.in-Some.place c.self.invariant.differ place in
    ap standing c.write_slot.ensures ∙ gone.listed ∙ ap (λ ps. without_property ps c.args.name.now) c.self.view_is
