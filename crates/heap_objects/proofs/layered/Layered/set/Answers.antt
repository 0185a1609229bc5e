use Rattle.std.proofs.Common.{◌∙◌, ◌++◌, List, ℕ, sym, ap, subst, ⊎_elim}
use Rattle.std.proofs.lemmas.Result.{on_ok_weaker}
use Rattle.heap_values.specs.declared.property.Property.{Property}
use Rattle.heap_elements.specs.Properties.{property_at, with_property}
use Rattle.heap_elements.specs.Places.{NamesDiffer}
use Rattle.heap_objects.specs.Layers.{left_of, layers}
use Rattle.heap_objects.proofs.PlaceLemmas.{nothing}
use Rattle.heap_elements.proofs.RowLemmas.{NamesDiffer-with}
use Rattle.heap_objects.proofs.LayerLemmas.{with_property-second, changed_or_kept}
use Rattle.heap_objects.proofs.layered.Layered.set.Goals as goal

pub invariant_of-self : goal.invariant_of-self
invariant_of-self c =
    let rows = left_of c.self.inside.table in
    let own = c.self.inside.own in
    let name = c.args.name.now in
    let p = c.args.property in
    let none = nothing (property_at rows name) (sym c.has_row.ensures ∙ c.if-not-has_row.true) in
    let Differ : List (List ℕ × Property) → Type 0 = λ ps. NamesDiffer (rows ++ ps) in
    let changed = subst NamesDiffer (with_property-second rows own name p none) (NamesDiffer-with (rows ++ own) name p c.self.invariant.1) in (
      c.self.invariant.0,
      ⊎_elim (λ is. subst Differ (sym is) changed) (λ is. subst Differ (sym is) c.self.invariant.1)
          (changed_or_kept c.set.result (with_property own name p) own c.set.new.self c.set.ensures.ok c.set.ensures.unchanged),
    )

pub returns-then-not-has_row-clause-ok : goal.returns-then-not-has_row-clause-ok
returns-then-not-has_row-clause-ok c =
    let rows = left_of c.self.inside.table in
    let name = c.args.name.now in
    let p = c.args.property in
    let none = nothing (property_at rows name) (sym c.has_row.ensures ∙ c.if-not-has_row.true) in
    on_ok_weaker c.set.result
    (λ is. ap (λ ps. rows ++ ps) is ∙ sym (with_property-second rows c.self.inside.own name p none) ∙ ap (λ ps. with_property ps name p) c.self.view_is)
    c.set.ensures.ok

pub invariant_of-self-2 : goal.invariant_of-self-2
invariant_of-self-2 c =
    let name = c.args.name.now in
    let p = c.args.property in
    let all = c.in_ok-set.ensures.ok ∙ ap (λ ps. with_property ps name p) c.in_ok-own.ensures in
    (tt, subst NamesDiffer (sym all) (NamesDiffer-with (layers c.self.inside.table c.self.inside.own) name p c.self.invariant.1))
