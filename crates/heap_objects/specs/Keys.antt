-- Names gathered along the prototypes, each once.
use Rattle.std.specs.Prelude.{◌≡◌, ℕ, Bool, List, [], ◌∷◌, ◌++◌, fold, if◌then◌else◌}
use Rattle.std.specs.List.{list_any}
use Rattle.std.specs.Str.{bytes_eq}

-- with this name at the end, unless it is there
abbrev pub with_name : List (List ℕ) → List ℕ → List (List ℕ)
with_name names name = if list_any (bytes_eq name) names then names else names ++ name ∷ []

-- with those of `more` that are not there yet
abbrev pub with_names : List (List ℕ) → List (List ℕ) → List (List ℕ)
with_names names more = fold with_name names more

-- `seen` tells which names are there
abbrev pub HasSeen : (List ℕ → Bool) → List (List ℕ) → Type 0
HasSeen seen names = (name : List ℕ) → seen name ≡ list_any (bytes_eq name) names

-- `after` is `before` with this mark at the name
abbrev pub IsMarked : (List ℕ → Bool) → List ℕ → Bool → (List ℕ → Bool) → Type 0
IsMarked before name mark after = (other : List ℕ) → after other ≡ (if bytes_eq name other then mark else before other)
