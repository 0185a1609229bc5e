-- Where a name stands among the properties.
use Rattle.std.specs.Prelude.{◌≡◌, ℕ, List, [], ◌∷◌, ◌++◌, Some, None, slice_get, slice_set, remove}
use Rattle.heap_values.specs.declared.property.Property.{Property}
use Rattle.heap_elements.specs.Properties.{property_at, with_property, without_property}

-- the entry at this place is that of the name: it is found, written and taken away there
pub record StandsAt (es : List (List ℕ × Property)) (name : List ℕ) (at : ℕ) : Type 0 where
  pub entry : List ℕ × Property
  pub is : slice_get es at ≡ Some entry
  pub found : property_at es name ≡ Some (entry.1)
  pub written : (p : Property) → with_property es name p ≡ slice_set es at (entry.0, p)
  pub removed : without_property es name ≡ remove es at

-- no entry has the name
pub record IsMissing (es : List (List ℕ × Property)) (name : List ℕ) : Type 0 where
  pub none : property_at es name ≡ None
  pub appended : (p : Property) → with_property es name p ≡ es ++ (name, p) ∷ []
  pub same : without_property es name ≡ es

-- no name comes twice
abbrev pub NamesDiffer : List (List ℕ × Property) → Type 0
NamesDiffer [] = Unit {0}
NamesDiffer (e ∷ es) = (property_at es e.0 ≡ None) × NamesDiffer es
