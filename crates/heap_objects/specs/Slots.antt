-- Properties in a row of slots, some of them empty, with an index of places by name.
use Rattle.std.specs.Prelude.{◌≡◌, ℕ, ◌≤◌, suc, List, [], ◌∷◌, Option, Some, None, if◌then◌else◌, length}
use Rattle.std.specs.Option.{option_map}
use Rattle.std.specs.Str.{bytes_eq}
use Rattle.heap_values.specs.declared.property.Property.{Property}
use Rattle.heap_elements.specs.Places.{NamesDiffer}

-- what stands in the row, in order
abbrev pub standing : List (Option (List ℕ × Property)) → List (List ℕ × Property)
standing [] = []
standing (None ∷ ss) = standing ss
standing (Some e ∷ ss) = e ∷ standing ss

-- the place of a name in the row
abbrev pub place_in : List (Option (List ℕ × Property)) → List ℕ → Option ℕ
place_in [] name = None
place_in (None ∷ ss) name = option_map (λ i. suc i) (place_in ss name)
place_in (Some e ∷ ss) name = if bytes_eq name e.0 then Some 0 else option_map (λ i. suc i) (place_in ss name)

-- the property in a slot, if there is one
abbrev pub property_in : Option (Option (List ℕ × Property)) → Option Property
property_in None = None
property_in (Some None) = None
property_in (Some (Some e)) = Some (e.1)

-- `place` gives the place of each name in the row, and no name comes twice
pub record IsIndexOf (place : List ℕ → Option ℕ) (ss : List (Option (List ℕ × Property))) : Type 0 where
  pub places : (name : List ℕ) → place name ≡ place_in ss name
  pub differ : NamesDiffer (standing ss)
  pub few : length ss ≤ 4294967296

-- `after` is `before` with this place, or none, at the name
abbrev pub Updated : (List ℕ → Option ℕ) → List ℕ → Option ℕ → (List ℕ → Option ℕ) → Type 0
Updated before name place after = (other : List ℕ) → after other ≡ (if bytes_eq name other then place else before other)

-- another place where there is one
abbrev pub moved : Option ℕ → ℕ → Option ℕ
moved None place = None
moved (Some i) place = Some place
