use Rattle.std.proofs.Common.{◌≤◌, length, arith, sym, ap, ◌∙◌}
use Rattle.heap_elements.specs.Properties.{listed_names_of}
use Rattle.heap_elements.specs.Elements.{elements_of, listed_numerals}
use Rattle.heap_elements.proofs.ElementLemmas.{all_listed, listed_names_of-slots}
use Rattle.heap_elements.proofs.elements.Elements.listed_names.Goals as goal

pub returns : goal.returns
returns c =
    let end : length c.args.self.now ≤ c.loop-slot.slot-index = omega (arith, ap length c.deref-slot-items.ensures.value, ap length c.self.view_is) in
    all_listed c.loop-slot.names c.args.self.now c.args.self.now c.loop-slot.slot-index end c.loop-slot.invariant
    ∙ ap listed_numerals (sym c.self.view_is)
    ∙ sym (listed_names_of-slots c.self.inside.slots.items c.self.invariant)
    ∙ ap (λ ss. listed_names_of (elements_of ss)) c.self.view_is
