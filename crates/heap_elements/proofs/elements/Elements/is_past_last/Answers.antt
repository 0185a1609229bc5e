use Rattle.std.proofs.Common.{◌≡◌, ◌∙◌, ◌-◌, None, true, length, slice_get, subst, sym, ap}
use Rattle.std.specs.Prelude.{nat_lt, ◌&&◌}
use Rattle.std.specs.Fmt.{decimal}
use Rattle.heap_elements.specs.Properties.{property_at}
use Rattle.heap_elements.specs.Elements.{Slots, elements_of, is_below, is_past_last}
use Rattle.heap_elements.proofs.ElementLemmas.{nothing_past}
use Rattle.heap_elements.proofs.elements.Elements.is_past_last.Goals as goal

pub returns-then-ends_below-clause-missing : goal.returns-then-ends_below-clause-missing
returns-then-ends_below-clause-missing c = λ small.
    let slots = c.self.inside.slots.items in
    let last : is_below (slice_get slots (length slots - 1)) c.args.index ≡ true =
    ap (λ ss. is_below (slice_get ss (length ss - 1)) c.args.index) (sym c.deref.ensures.value) ∙ sym c.ends_below.ensures ∙ c.if-ends_below.true in
    let next : is_past_last slots c.args.index ≡ true = ap (λ b. b && nat_lt c.args.index 4294967295) last ∙ small in
    subst (λ (ss : Slots). property_at (elements_of ss) (decimal c.args.index) ≡ None) c.self.view_is
    (nothing_past slots c.self.invariant c.args.index next)
