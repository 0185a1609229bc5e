use Rattle.std.proofs.Common.{◌∙◌, ◌≡◌, [], sym, ap, subst, map}
use Rattle.heap_elements.specs.Properties.{with_properties}
use Rattle.heap_elements.specs.Places.{NamesDiffer}
use Rattle.heap_objects.specs.TableRows.{left_in, entries_of, row_read}
use Rattle.heap_objects.proofs.LayerLemmas.{with_properties-differ}
use Rattle.heap_objects.proofs.layered.Layered.built_in.Goals as goal

pub invariant_of-result : goal.invariant_of-result
invariant_of-result c =
    let entries = entries_of (map row_read c.args.rows.now) in
    let all : c.copy_into.new.all ≡ entries =
    c.in_ok-copy_into.ensures ∙ ap (λ ps. with_properties ps (left_in c.new-table.result)) c.new-own.ensures
    ∙ ap (λ es. with_properties [] es) c.new-table.ensures.left ∙ with_properties-differ [] entries c.requires in
    (tt, subst NamesDiffer (sym all) c.requires)

pub returns-then-is_empty : goal.returns-then-is_empty
returns-then-is_empty c =
    let entries = entries_of (map row_read c.args.rows.now) in
    c.in_ok-copy_into.ensures ∙ ap (λ ps. with_properties ps (left_in c.new-table.result)) c.new-own.ensures
    ∙ ap (λ es. with_properties [] es) c.new-table.ensures.left ∙ with_properties-differ [] entries c.requires
