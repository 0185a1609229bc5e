-- How the index of a scope's names tells their slots.
use Rattle.std.specs.Prelude.{◌≡◌, ℕ, List, Option, Some, if◌then◌else◌}
use Rattle.std.specs.Str.{bytes_eq}
use Rattle.js_binding.specs.Scopes.{place_of}

-- the index gives each name its place, and no other name
abbrev pub IsIndex : (List ℕ → Option ℕ) → List (List ℕ) → Type 0
IsIndex slots names = (x : List ℕ) → slots x ≡ place_of x names

-- `after` is `before` with this slot at the name
abbrev pub IsPut : (List ℕ → Option ℕ) → List ℕ → ℕ → (List ℕ → Option ℕ) → Type 0
IsPut before name slot after = (x : List ℕ) → after x ≡ (if bytes_eq name x then Some slot else before x)
