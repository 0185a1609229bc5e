use Rattle.std.proofs.Common.{◌∙◌, sym, ap, subst}
use Rattle.heap_elements.specs.Elements.{elements_of, AreRising}
use Rattle.heap_elements.proofs.ElementLemmas.{rising_filled, elements_of-filled}
use Rattle.heap_elements.proofs.elements.Elements.close_gaps.Goals as goal

pub invariant_of-self : goal.invariant_of-self
invariant_of-self c = subst (AreRising 0) (sym c.drop_gaps.ensures) (rising_filled c.drop_empty_end.new.slots.items c.drop_empty_end.ensures.rising)

pub returns-then-self-len : goal.returns-then-self-len
returns-then-self-len c =
    ap elements_of c.drop_gaps.ensures ∙ elements_of-filled c.drop_empty_end.new.slots.items ∙ c.drop_empty_end.ensures.same ∙ ap elements_of c.self.view_is
