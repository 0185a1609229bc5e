-- The properties of an object in two layers: those left of the rows that it began with, and behind them its own.
use Rattle.std.specs.Prelude.{ℕ, ◌≤◌, List, [], ◌++◌, Option, Some, None, length}
use Rattle.std.specs.Global.{Box}
use Rattle.heap_values.specs.declared.property.Property.{Property}
use Rattle.heap_objects.specs.TableRows.{TableView, left_in}

abbrev pub left_of : Option (Box TableView) → List (List ℕ × Property)
left_of None = []
left_of (Some table) = left_in table.value

abbrev pub layers : Option (Box TableView) → List (List ℕ × Property) → List (List ℕ × Property)
layers table own = left_of table ++ own

-- each row has its mark
abbrev pub AreMarked : Option (Box TableView) → Type 0
AreMarked None = Unit {0}
AreMarked (Some table) = length table.value.rows ≤ 64
