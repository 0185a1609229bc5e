use Rattle.std.proofs.Common.{◌++◌, List, ℕ, sym, ap, subst, ⊎_elim}
use Rattle.std.specs.Fmt.{decimal}
use Rattle.heap_values.specs.declared.property.Property.{Property}
use Rattle.heap_elements.specs.Properties.{property_at, with_property}
use Rattle.heap_elements.specs.Places.{NamesDiffer}
use Rattle.heap_objects.specs.Layers.{left_of}
use Rattle.heap_objects.proofs.LayerLemmas.{with_property-second, changed_or_kept}
use Rattle.heap_elements.proofs.RowLemmas.{NamesDiffer-with}
use Rattle.heap_objects.proofs.layered.Layered.set_index.Goals as goal

pub invariant_of-self : goal.invariant_of-self
invariant_of-self c =
    let rows = left_of c.self.inside.table in
    let own = c.self.inside.own in
    let name = decimal c.args.index in
    let p = c.args.property in
    let none = ap (λ ps. property_at ps name) (c.has_no_table.ensures c.if-has_no_table.true) in
    let Differ : List (List ℕ × Property) → Type 0 = λ ps. NamesDiffer (rows ++ ps) in
    let changed = subst NamesDiffer (with_property-second rows own name p none) (NamesDiffer-with (rows ++ own) name p c.self.invariant.1) in (
      c.self.invariant.0,
      ⊎_elim (λ is. subst Differ (sym is) changed) (λ is. subst Differ (sym is) c.self.invariant.1)
          (changed_or_kept c.set_index.result (with_property own name p) own c.set_index.new.self c.set_index.ensures.ok c.set_index.ensures.unchanged),
    )
