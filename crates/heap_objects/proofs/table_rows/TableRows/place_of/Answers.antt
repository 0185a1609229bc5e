use Rattle.std.proofs.Common.{◌∙◌, ◌≤◌, Some, sym, ap, length, arith}
use Rattle.std.proofs.lemmas.List.{take_all}
use Rattle.heap_objects.specs.Slots.{place_in}
use Rattle.heap_objects.specs.TableRows.{slots_in}
use Rattle.heap_objects.proofs.TableLemmas.{placed, not_placed, length-slots_of}
use Rattle.heap_objects.proofs.table_rows.TableRows.place_of.Goals as goal

pub returns-then-has_name-clause-place : goal.returns-then-has_name-clause-place
returns-then-has_name-clause-place c =
    sym (placed (slots_in c.args.self.now) c.loop-at.at c.args.name.now (c.has_name.ensures ∙ ap (λ b. Some b) c.if-has_name.true) c.loop-at.invariant)

pub loop-at-preserved : goal.loop-at-preserved
loop-at-preserved c =
    not_placed (slots_in c.args.self.now) c.loop-at.at c.args.name.now (c.has_name.ensures ∙ ap (λ b. Some b) c.if-has_name.false) c.loop-at.invariant

pub returns-clause-place : goal.returns-clause-place
returns-clause-place c =
    let table = c.args.self.now in
    let all : length (slots_in table) ≤ c.loop-at.at =
    omega (arith, length-slots_of (table.rows) table.gone, c.loop-at-test.false, c.len-at-end.ensures) in
    sym (ap (λ ss. place_in ss c.args.name.now) (sym (take_all c.loop-at.at (slots_in table) all)) ∙ c.loop-at.invariant)
