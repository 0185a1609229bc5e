-- The properties of an object: a list of names and properties in the order of creation, each name once.
use Rattle.std.specs.Prelude.{ℕ, List, [], ◌∷◌, ◌++◌, Option, Some, None, if◌then◌else◌}
use Rattle.std.specs.Ordering.{nat_cmp}
use Rattle.std.specs.BTreeMap.{insert_entry}
use Rattle.std.specs.Map.{lookup, remove_entry, values_of}
use Rattle.std.specs.Str.{bytes_eq}
use Rattle.heap_elements.specs.Names.{array_index}
use Rattle.heap_values.specs.declared.property.Property.{Property}

-- the property of this name
abbrev pub property_at : List (List ℕ × Property) → List ℕ → Option Property
property_at ps name = lookup (bytes_eq name) ps

-- with this property under the name: in its place where the name is there, else at the end
abbrev pub with_property : List (List ℕ × Property) → List ℕ → Property → List (List ℕ × Property)
with_property [] name p = (name, p) ∷ []
with_property (e ∷ es) name p = if bytes_eq name e.0 then (e.0, p) ∷ es else e ∷ with_property es name p

-- without the property of this name; the others keep their order
abbrev pub without_property : List (List ℕ × Property) → List ℕ → List (List ℕ × Property)
without_property ps name = remove_entry (bytes_eq name) ps

-- with each of these properties in turn
abbrev pub with_properties : List (List ℕ × Property) → List (List ℕ × Property) → List (List ℕ × Property)
with_properties ps [] = ps
with_properties ps (e ∷ es) = with_properties (with_property ps e.0 e.1) es

-- with a listed name among the indexes, kept rising
abbrev pub index_put : List (ℕ × List ℕ) → List ℕ → Option ℕ → List (ℕ × List ℕ)
index_put es name None = es
index_put es name (Some i) = insert_entry nat_cmp es i name

-- the listed names that are array indexes, rising, each with its number, put among `es`
abbrev pub indexed_into : List (ℕ × List ℕ) → List (List ℕ × Property) → List (ℕ × List ℕ)
indexed_into es [] = es
indexed_into es (p ∷ ps) = indexed_into (if p.1.listed then index_put es p.0 (array_index p.0) else es) ps

abbrev pub name_unless_index : List ℕ → Option ℕ → List (List ℕ)
name_unless_index name None = name ∷ []
name_unless_index name (Some i) = []

-- the other listed names, in the order of creation
abbrev pub other_names : List (List ℕ × Property) → List (List ℕ)
other_names [] = []
other_names (p ∷ ps) = (if p.1.listed then name_unless_index p.0 (array_index p.0) else []) ++ other_names ps

-- the names that are listed: array indexes first, rising, then the others
abbrev pub listed_names_of : List (List ℕ × Property) → List (List ℕ)
listed_names_of ps = values_of (indexed_into [] ps) ++ other_names ps
