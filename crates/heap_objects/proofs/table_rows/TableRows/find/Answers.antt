use Rattle.std.proofs.Common.{◌∙◌, sym}
use Rattle.std.specs.Option.{option_copied}
use Rattle.heap_objects.specs.TableRows.{slots_in, slot_of}
use Rattle.heap_objects.proofs.PlaceLemmas.{no_property}
use Rattle.heap_objects.proofs.TableLemmas.{slot_found, slot_property}
use Rattle.heap_objects.proofs.table_rows.TableRows.find.Goals as goal

pub returns-in-None : goal.returns-in-None
returns-in-None c = sym (no_property (slots_in c.args.self.now) c.args.name.now (sym c.place_of.ensures.place ∙ c.in-None.is))

pub returns-in-Some : goal.returns-in-Some
returns-in-Some c =
    let row = option_copied c.row_at.result in
    sym (slot_property row)
    ∙ slot_found (slots_in c.args.self.now) c.in-Some.at c.args.name.now (slot_of row) c.row_at.ensures (sym c.place_of.ensures.place ∙ c.in-Some.is)
