use Rattle.std.proofs.Common.{◌∙◌, ◌≡◌, ◌<◌, ℕ, List, [], Bool, Some, false, slice_get, sym, ap, length, arith}
use Rattle.std.specs.Borrow.{Bor}
use Rattle.std.proofs.lemmas.List.{length-map}
use Rattle.std.proofs.lemmas.Option.{slice_get-get_or}
use Rattle.heap_objects.specs.declared.table_row.Entry.{Entry}
use Rattle.heap_objects.specs.declared.table_row.Entry.TheVariants.{LeftOut}
use Rattle.heap_objects.specs.TableRows.{TableView, row_read, slots_in, slot_of, is_gone}
use Rattle.heap_objects.proofs.TableLemmas.{slot_there, slot_gone}
use Rattle.heap_objects.proofs.table_rows.TableRows.row_at.Goals as goal

pub returns-then-is_gone : goal.returns-then-is_gone
returns-then-is_gone c =
    let table = c.args.self.now in
    slot_gone table.rows table.gone c.args.at c.requires (sym c.is_gone.ensures ∙ c.if-is_gone.true)

pub returns : goal.returns
returns c =
    let rows = c.self.inside.rows.now in
    let gone = c.self.inside.gone in
    let nothing : Bor (List ℕ) = record { ref_ptr = (0, 0); now = [] } in
    let unread : Bor (List ℕ) × Entry × Bor (List ℕ) × Bool = (nothing, LeftOut, nothing, false) in
    let below : c.args.at < length rows = omega (arith, length-map rows row_read, ap (λ (t : TableView). length t.rows) c.self.view_is, c.requires) in
    let there : is_gone gone c.args.at ≡ false = ap (λ (t : TableView). is_gone t.gone c.args.at) c.self.view_is ∙ sym c.is_gone.ensures ∙ c.if-is_gone.false in
    ap (λ t. slice_get (slots_in t) c.args.at) (sym c.self.view_is)
    ∙ slot_there rows gone c.args.at below there
    ∙ ap (λ row. Some (slot_of row)) (slice_get-get_or rows c.args.at unread below)
