use Rattle.std.proofs.Common.{◌∙◌, ◌≡◌, None, Some, true, sym, ap, subst, arith}
use Rattle.std.specs.Fmt.{decimal}
use Rattle.heap_elements.specs.Properties.{property_at, with_property}
use Rattle.heap_elements.specs.Elements.{Slots, AreRising, elements_of, takes, HasIndex}
use Rattle.heap_elements.proofs.ElementLemmas.{within, rising_set, element_written, element_appended}
use Rattle.heap_elements.proofs.elements.Elements.set.Goals as goal

pub invariant_of-self : goal.invariant_of-self
invariant_of-self c = subst (AreRising 0) (sym c.in_err-append-in-None.ensures.unchanged) c.self.invariant

pub invariant_of-self-in-None : goal.invariant_of-self-in-None
invariant_of-self-in-None c =
    let slots = c.self.inside.slots.items in
    let taken : takes slots c.args.index ≡ true = ap (λ ss. takes ss c.args.index) c.self.view_is ∙ c.requires in
    let none : property_at (elements_of slots) (decimal c.args.index) ≡ None =
    ap (λ ss. property_at (elements_of ss) (decimal c.args.index)) c.self.view_is ∙ c.in-None.ensures.missing in
    subst (AreRising 0) (sym c.in_ok-append-in-None.ensures.ok) (element_appended slots c.self.invariant c.args.index c.args.property none taken).0

pub index_mut-requires : goal.index_mut-requires
index_mut-requires c =
    let has = subst (λ (ss : Slots). HasIndex ss c.args.index c.in-Some.at) (sym c.self.view_is) c.in-Some.ensures.found in
    omega (arith, within c.self.inside.slots.items c.in-Some.at c.args.index has)

pub invariant_of-self-in-Some : goal.invariant_of-self-in-Some
invariant_of-self-in-Some c =
    let has = subst (λ (ss : Slots). HasIndex ss c.args.index c.in-Some.at) (sym c.self.view_is) c.in-Some.ensures.found in
    rising_set c.self.inside.slots.items c.self.invariant c.in-Some.at c.args.index has.content (Some c.args.property) has.is

pub returns-in_ok-append-in-None-clause-ok : goal.returns-in_ok-append-in-None-clause-ok
returns-in_ok-append-in-None-clause-ok c =
    let slots = c.self.inside.slots.items in
    let taken : takes slots c.args.index ≡ true = ap (λ ss. takes ss c.args.index) c.self.view_is ∙ c.requires in
    let none : property_at (elements_of slots) (decimal c.args.index) ≡ None =
    ap (λ ss. property_at (elements_of ss) (decimal c.args.index)) c.self.view_is ∙ c.in-None.ensures.missing in
    ap elements_of c.in_ok-append-in-None.ensures.ok
    ∙ (element_appended slots c.self.invariant c.args.index c.args.property none taken).1
    ∙ ap (λ ss. with_property (elements_of ss) (decimal c.args.index) c.args.property) c.self.view_is

pub returns-in-Some-clause-ok : goal.returns-in-Some-clause-ok
returns-in-Some-clause-ok c =
    let slots = c.self.inside.slots.items in
    let taken : takes slots c.args.index ≡ true = ap (λ ss. takes ss c.args.index) c.self.view_is ∙ c.requires in
    let has = subst (λ (ss : Slots). HasIndex ss c.args.index c.in-Some.at) (sym c.self.view_is) c.in-Some.ensures.found in
    element_written slots c.self.invariant c.in-Some.at c.args.index has.content c.args.property has.is taken
    ∙ ap (λ ss. with_property (elements_of ss) (decimal c.args.index) c.args.property) c.self.view_is
