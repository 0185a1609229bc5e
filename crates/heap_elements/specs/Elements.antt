-- Properties under array indexes, in slots that rise by index: the dense form of an array's elements (ECMA-262 5.1, section
-- 15.4). A slot whose property was deleted is empty.
use Rattle.std.specs.Prelude.{◌≡◌, ℕ, suc, ◌-◌, ◌<◌, ◌≤◌, List, [], ◌∷◌, ◌++◌, Option, Some, None, is_some, Bool, if◌then◌else◌, true, false, ◌&&◌, ◌||◌, length, nat_eq, nat_lt, slice_get}
use Rattle.std.specs.Fmt.{decimal}
use Rattle.heap_values.specs.declared.property.Property.{Property}
use Rattle.heap_elements.specs.Properties.{property_at}

-- an index with the property under it, or with none where it was deleted
abbrev pub Slots : Type 0
Slots = List (ℕ × Option Property)

-- each index is that of an array, from this number on and below those behind it
abbrev pub AreRising : ℕ → Slots → Type 0
AreRising from [] = Unit {0}
AreRising from (s ∷ slots) = (from ≤ s.0) × (s.0 < 4294967295) × AreRising (suc s.0) slots

-- the names and properties of what stands in slots. Their order is that of creation
abbrev pub elements_of : Slots → List (List ℕ × Property)
elements_of [] = []
elements_of ((i, None) ∷ slots) = elements_of slots
elements_of ((i, Some p) ∷ slots) = (decimal i, p) ∷ elements_of slots

-- whether a slot is there and has this index
abbrev pub has_index : Option (ℕ × Option Property) → ℕ → Bool
has_index None index = false
has_index (Some s) index = nat_eq s.0 index

-- whether the index of a slot, if there is one, is below this one
abbrev pub is_below : Option (ℕ × Option Property) → ℕ → Bool
is_below None index = true
is_below (Some s) index = nat_lt s.0 index

-- whether an array index is past that of the last slot
abbrev pub is_past_last : Slots → ℕ → Bool
is_past_last slots index = is_below (slice_get slots (length slots - 1)) index && nat_lt index 4294967295

-- whether a property under this index stands in its slot or goes behind the last, so that the order stays that of indexes
abbrev pub takes : Slots → ℕ → Bool
takes slots index = is_some (property_at (elements_of slots) (decimal index)) || is_past_last slots index

-- the index under which such a property has this name
abbrev pub index_if : Bool → ℕ → Option ℕ
index_if b index = if b then Some index else None

abbrev pub taken_index : Slots → Option ℕ → Option ℕ
taken_index slots None = None
taken_index slots (Some index) = index_if (takes slots index) index

-- a slot stands at this place and has this index
pub record HasIndex (slots : Slots) (index at : ℕ) : Type 0 where
  pub content : Option Property
  pub is : slice_get slots at ≡ Some (index, content)

abbrev pub is_filled : ℕ × Option Property → Bool
is_filled s = is_some s.1

abbrev pub is_gap : Option (ℕ × Option Property) → Bool
is_gap None = false
is_gap (Some (i, None)) = true
is_gap (Some (i, Some p)) = false

abbrev pub is_listed : Option Property → Bool
is_listed None = false
is_listed (Some p) = p.listed

-- the numerals of the indexes whose properties are listed
abbrev pub listed_numerals : Slots → List (List ℕ)
listed_numerals [] = []
listed_numerals (s ∷ slots) = (if is_listed s.1 then decimal s.0 ∷ [] else []) ++ listed_numerals slots
