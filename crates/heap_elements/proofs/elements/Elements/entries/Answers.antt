use Rattle.std.proofs.Common.{◌≤◌, length, arith, sym, ap, subst, ◌∙◌}
use Rattle.heap_elements.specs.Places.{NamesDiffer}
use Rattle.heap_elements.specs.Elements.{elements_of}
use Rattle.heap_elements.proofs.ElementLemmas.{all_standing, names_differ}
use Rattle.heap_elements.proofs.elements.Elements.entries.Goals as goal

pub returns-clause-differ : goal.returns-clause-differ
returns-clause-differ c =
    let end : length c.args.self.now ≤ c.loop-slot.slot-index = omega (arith, ap length c.deref-slot-items.ensures.value, ap length c.self.view_is) in
    let all = all_standing c.loop-slot.row.items c.args.self.now c.args.self.now c.loop-slot.slot-index end c.loop-slot.invariant in
    subst NamesDiffer (sym (all ∙ ap elements_of (sym c.self.view_is))) (names_differ c.self.inside.slots.items c.self.invariant)
