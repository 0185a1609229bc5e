use Rattle.std.proofs.Common.{◌∙◌, None, sym, ap, subst}
use Rattle.std.specs.Fmt.{decimal}
use Rattle.heap_elements.specs.Properties.{without_property}
use Rattle.heap_elements.specs.Elements.{Slots, elements_of, HasIndex}
use Rattle.heap_elements.proofs.RowLemmas.{without_property-missing}
use Rattle.heap_elements.proofs.ElementLemmas.{rising_set, element_taken_away}
use Rattle.heap_elements.proofs.elements.Elements.remove.Goals as goal

pub invariant_of-self : goal.invariant_of-self
invariant_of-self c =
    let has = subst (λ (ss : Slots). HasIndex ss c.args.index c.in-Some.at) (sym c.self.view_is) c.in-Some.ensures.found in
    rising_set c.self.inside.slots.items c.self.invariant c.in-Some.at c.args.index has.content None has.is

pub returns-in-None : goal.returns-in-None
returns-in-None c = sym (without_property-missing (elements_of c.args.self.now) (decimal c.args.index) c.in-None.ensures.missing)

pub returns-in-Some : goal.returns-in-Some
returns-in-Some c =
    let has = subst (λ (ss : Slots). HasIndex ss c.args.index c.in-Some.at) (sym c.self.view_is) c.in-Some.ensures.found in
    c.close_gaps.ensures
    ∙ element_taken_away c.self.inside.slots.items c.self.invariant c.in-Some.at c.args.index has.content has.is
    ∙ ap (λ ss. without_property (elements_of ss) (decimal c.args.index)) c.self.view_is
