use Rattle.std.proofs.Common.{◌≡◌, ◌∙◌, ◌-◌, None, true, length, slice_get, rules, subst, sym, ap, arith}
use Rattle.std.specs.Fmt.{decimal}
use Rattle.heap_elements.specs.Properties.{property_at}
use Rattle.heap_elements.specs.Elements.{Slots, elements_of, is_below}
use Rattle.heap_elements.proofs.ElementLemmas.{found_there, nothing_behind}
use Rattle.heap_elements.proofs.elements.Elements.place_of.Goals as goal

pub returns-then-has_index-clause-found : goal.returns-then-has_index-clause-found
returns-then-has_index-clause-found c = found_there c.args.self.now c.args.index c.args.index (search rules)

pub returns-then-ends_below-clause-missing : goal.returns-then-ends_below-clause-missing
returns-then-ends_below-clause-missing c =
    let slots = c.self.inside.slots.items in
    let below : is_below (slice_get slots (length slots - 1)) c.args.index ≡ true =
    ap (λ ss. is_below (slice_get ss (length ss - 1)) c.args.index) (sym c.deref-2.ensures.value) ∙ sym c.ends_below.ensures ∙ c.if-ends_below.true in
    subst (λ (ss : Slots). property_at (elements_of ss) (decimal c.args.index) ≡ None) c.self.view_is
    (nothing_behind slots c.self.invariant c.args.index (omega arith) below)
