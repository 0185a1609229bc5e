use Rattle.std.proofs.Common.{◌∙◌, ◌+◌, ◌≤◌, sym, ap, drop, length, arith}
use Rattle.std.specs.Option.{option_copied}
use Rattle.std.proofs.lemmas.List.{drop_all}
use Rattle.heap_elements.specs.Properties.{with_properties}
use Rattle.heap_objects.specs.Slots.{standing}
use Rattle.heap_objects.specs.TableRows.{slots_in, slot_of}
use Rattle.heap_objects.proofs.TableLemmas.{added_next, length-slots_of}
use Rattle.heap_objects.proofs.table_rows.TableRows.copy_into.Goals as goal

pub loop-at-preserved : goal.loop-at-preserved
loop-at-preserved c =
    let slots = slots_in c.args.self.now in
    ap (λ all. with_properties all (standing (drop (c.loop-at.at + 1) slots))) c.in_ok-copy_row.ensures
    ∙ added_next c.loop-at.all slots c.loop-at.at (slot_of (option_copied c.row_at.result)) c.row_at.ensures
    ∙ c.loop-at.invariant

pub returns : goal.returns
returns c =
    let table = c.args.self.now in
    let all : length (slots_in table) ≤ c.loop-at.at =
    omega (arith, length-slots_of (table.rows) table.gone, c.loop-at-test.false, c.len-at-end.ensures) in
    sym (ap (λ rest. with_properties c.loop-at.all (standing rest)) (drop_all c.loop-at.at (slots_in table) all)) ∙ c.loop-at.invariant
