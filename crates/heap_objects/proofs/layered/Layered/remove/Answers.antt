use Rattle.std.proofs.Common.{◌∙◌, ◌≡◌, ◌++◌, sym, ap, subst}
use Rattle.heap_elements.specs.Properties.{without_property}
use Rattle.heap_elements.specs.Places.{NamesDiffer}
use Rattle.heap_objects.specs.Layers.{left_of, layers}
use Rattle.heap_elements.proofs.RowLemmas.{NamesDiffer-without}
use Rattle.heap_objects.proofs.LayerLemmas.{without_property-both, NamesDiffer-first}
use Rattle.heap_objects.proofs.layered.Layered.remove.Goals as goal

pub remove_row-requires-clause-differ : goal.remove_row-requires-clause-differ
remove_row-requires-clause-differ c = NamesDiffer-first (left_of c.self.inside.table) c.self.inside.own c.self.invariant.1

pub invariant_of-self : goal.invariant_of-self
invariant_of-self c =
    let table = c.self.inside.table in
    let own = c.self.inside.own in
    let name = c.args.name.now in
    let after : layers c.remove_row.new.table c.remove.new.self ≡ without_property (layers table own) name =
    ap (λ ps. ps ++ c.remove.new.self) c.remove_row.ensures.after ∙ ap (λ ps. without_property (left_of table) name ++ ps) c.remove.ensures
    ∙ sym (without_property-both (left_of table) own name c.self.invariant.1) in
    (c.remove_row.ensures.marked, subst NamesDiffer (sym after) (NamesDiffer-without (layers table own) name c.self.invariant.1))

pub returns : goal.returns
returns c =
    let table = c.self.inside.table in
    let own = c.self.inside.own in
    let name = c.args.name.now in
    ap (λ ps. ps ++ c.remove.new.self) c.remove_row.ensures.after ∙ ap (λ ps. without_property (left_of table) name ++ ps) c.remove.ensures
    ∙ sym (without_property-both (left_of table) own name c.self.invariant.1)
    ∙ ap (λ ps. without_property ps name) c.self.view_is
