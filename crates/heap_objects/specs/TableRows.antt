-- The properties that a built-in object begins with: rows of a table, of which some may have been deleted.
use Rattle.std.specs.Prelude.{ℕ, List, [], ◌∷◌, Bool, true, false, Option, Some, None, map, unwrap_or, slice_get}
use Rattle.std.specs.Borrow.{Bor}
use Rattle.std.specs.Option.{option_map}
use Rattle.std.specs.Str.{bytes_eq}
use Rattle.heap_values.specs.declared.property.Content.{Content}
use Rattle.heap_values.specs.declared.property.Content.TheVariants as content
use Rattle.heap_values.specs.declared.property.Property.{Property}
use Rattle.heap_values.specs.declared.value.Value.TheVariants as value
use Rattle.heap_objects.specs.declared.table_row.Entry.{Entry}
use Rattle.heap_objects.specs.declared.table_row.Entry.TheVariants.{LeftOut, Text, Undefined, Object}
use Rattle.heap_objects.specs.Slots.{standing}

-- a row: the name, what stands there with its text, and whether it can be deleted
abbrev pub Row : Type 0
Row = List ℕ × Entry × List ℕ × Bool

-- a row as code reads it
abbrev pub row_read : (Bor (List ℕ) × Entry × Bor (List ℕ) × Bool) → Row
row_read row = (row.0.now, row.1, row.2.now, row.3)

abbrev pub entry_content : Entry → List ℕ → Content
entry_content LeftOut text = content.LeftOut text
entry_content Text text = content.Value (value.Text text)
entry_content Undefined text = content.Value value.Undefined
entry_content (Object id) text = content.Value (value.Object id)

-- the property of a row; it is not listed
abbrev pub row_property : Row → Property
row_property row = record { content = entry_content row.1 row.2; listed = false; deletable = row.3 }

-- the name and the property of a row
abbrev pub row_entry : Row → List ℕ × Property
row_entry row = (row.0, row_property row)

-- the properties that rows give
abbrev pub entries_of : List Row → List (List ℕ × Property)
entries_of rows = map row_entry rows

-- rows as slots, where one that is marked as gone is a gap; a row without a mark is there
abbrev pub slots_of : List Row → List Bool → List (Option (List ℕ × Property))
slots_of [] gone = []
slots_of (row ∷ rows) [] = Some (row_entry row) ∷ slots_of rows []
slots_of (row ∷ rows) (true ∷ gone) = None ∷ slots_of rows gone
slots_of (row ∷ rows) (false ∷ gone) = Some (row_entry row) ∷ slots_of rows gone

-- whether the row at a place is marked
abbrev pub is_gone : List Bool → ℕ → Bool
is_gone gone at = unwrap_or (slice_get gone at) false

-- the slot of a row that code reads
abbrev pub slot_of : Option (Bor (List ℕ) × Entry × Bor (List ℕ) × Bool) → Option (List ℕ × Property)
slot_of row = option_map (λ r. row_entry (row_read r)) row

-- whether a slot has this name
abbrev pub has_name : Option (List ℕ × Property) → List ℕ → Bool
has_name None name = false
has_name (Some e) name = bytes_eq name e.0

-- what code sees of a table: its rows, and which of them are gone
pub record TableView : Type 0 where
  pub rows : List Row
  pub gone : List Bool

abbrev pub slots_in : TableView → List (Option (List ℕ × Property))
slots_in table = slots_of table.rows table.gone

-- the properties that are left
abbrev pub left_in : TableView → List (List ℕ × Property)
left_in table = standing (slots_in table)
