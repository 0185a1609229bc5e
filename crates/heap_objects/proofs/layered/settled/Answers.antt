use Rattle.std.proofs.Common.{◌∙◌, [], ap}
use Rattle.heap_elements.specs.Properties.{with_properties}
use Rattle.heap_objects.specs.Layers.{left_of}
use Rattle.heap_objects.proofs.LayerLemmas.{with_properties-differ, NamesDiffer-first}
use Rattle.heap_objects.proofs.layered.settled.Goals as goal

pub returns : goal.returns
returns c =
    let rows = left_of c.args.table.now in
    let own = c.args.own.now in
    c.in_ok-copy_into.ensures
    ∙ ap (λ ps. with_properties ps own)
    (c.in_ok-copy_rows.ensures ∙ ap (λ ps. with_properties ps rows) c.new-all.ensures ∙ with_properties-differ [] rows (NamesDiffer-first rows own c.requires))
    ∙ with_properties-differ rows own c.requires
