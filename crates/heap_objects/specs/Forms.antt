-- The three forms of an object's properties are seen as one list.
use Rattle.std.specs.Prelude.{ℕ, List}
use Rattle.heap_values.specs.declared.property.Property.{Property}
use Rattle.heap_elements.specs.Places.{NamesDiffer}
use Rattle.heap_elements.specs.Elements.{elements_of}
use Rattle.heap_objects.specs.declared.properties.Form.{Form}
use Rattle.heap_objects.specs.declared.properties.Form.TheVariants.{Row, Elements, Ordered}

abbrev pub listed : Form → List (List ℕ × Property)
listed (Row row) = row.items
listed (Elements places) = elements_of places
listed (Ordered many) = many.value

-- the names of a row differ; those of the other forms differ by their own invariants
abbrev pub RowDiffers : Form → Type 0
RowDiffers (Row row) = NamesDiffer row.items
RowDiffers (Elements places) = Unit {0}
RowDiffers (Ordered many) = Unit {0}
