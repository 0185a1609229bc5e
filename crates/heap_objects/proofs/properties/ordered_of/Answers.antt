use Rattle.std.proofs.Common.{◌≡◌, ◌++◌, ◌∷◌, [], ◌∙◌, Some, slice_get, take, sym, ap}
use Rattle.std.proofs.lemmas.List.{take_more}
use Rattle.std.proofs.lemmas.Option.{slice_get-get_or}
use Rattle.heap_elements.specs.Properties.{with_property}
use Rattle.heap_elements.proofs.RowLemmas.{with_property-next}
use Rattle.heap_objects.proofs.properties.ordered_of.Goals as goal

pub loop-entry-preserved : goal.loop-entry-preserved
loop-entry-preserved c =
    let row = c.args.row.now in
    let at = c.loop-entry.entry-index in
    let entry = c.entry-item.result in
    let stands : slice_get row at ≡ Some entry = slice_get-get_or row at entry c.loop-entry-test.true ∙ ap (λ e. Some e) (sym c.entry-item.is) in
    c.in_ok-set.ensures.ok
    ∙ ap (λ p. with_property c.loop-entry.many entry.0 p) c.in_ok-copy.ensures
    ∙ ap (λ many. with_property many entry.0 entry.1) c.loop-entry.invariant
    ∙ with_property-next row at entry c.requires stands
    ∙ ap (λ e. take at row ++ e ∷ []) c.entry-item.is
    ∙ sym (take_more row at entry c.loop-entry-test.true)
