-- How the code goes through a replacement: from one part that isn't empty to the next. A part is `$` with the unit
-- behind it, or a unit alone. A place in a replacement is the number of units that are left there.
use Rattle.std.specs.Prelude.{◌≡◌, ℕ, ◌+◌, ◌-◌, ◌*◌, ◌<◌, ◌≤◌, ◌⊎◌, List, [], ◌∷◌, Some, if◌then◌else◌, nat_eq, nat_le, ◌&&◌, length, drop, get_or}
use Rattle.js_pattern.specs.Search.{Found}
use Rattle.pattern_builtins.specs.Replacing.{named}

-- the kind of the part `$` and c: 1 to 9 for the groups, 10 for `$&`, 11 for `` $` ``, 12 for `$'`; and 0 for what is
-- never empty
abbrev pub kind_of : ℕ → ℕ
kind_of c = if nat_eq c 38 then 10
    else if nat_eq c 96 then 11
    else if nat_eq c 39 then 12
    else if nat_le 49 c && nat_le c 57 then c - 48
    else 0

-- the unit behind the `$` of a kind; `$0` stands for itself
abbrev pub unit_of : ℕ → ℕ
unit_of k = if nat_eq k 10 then 38
    else if nat_eq k 11 then 96
    else if nat_eq k 12 then 39
    else 48 + k

-- the next place where a part of a kind stands, and 0 where there is none
abbrev pub next_of : ℕ → List ℕ → ℕ
next_of k [] = 0
next_of k (u ∷ []) = if nat_eq k 0 then 1 else 0
next_of k (u ∷ c ∷ us) = if nat_eq u 36
    then (if nat_eq k (kind_of c) then length (u ∷ c ∷ us) else next_of k us)
    else (if nat_eq k 0 then length (u ∷ c ∷ us) else next_of k (c ∷ us))

-- what stands at a place
abbrev pub last : ℕ → List ℕ → List ℕ
last n us = drop (length us - n) us

-- the part at the front is of this kind, and has so many units
pub record Front (us : List ℕ) (kind size : ℕ) : Type 0 where
  pub some : 0 < size
  pub within : size ≤ length us
  pub is_kind : kind < 13
  pub next : (k : ℕ) → next_of k us ≡ (if nat_eq k kind then length us else next_of k (drop size us))

-- the rows of so many places, from the end on
pub record Rows (by : List ℕ) (count : ℕ) (rows : List ℕ) : Type 0 where
  pub size : length rows ≡ 13 * count
  pub each : (n k : ℕ) → n < count → k < 13 → get_or rows (13 * n + k) 0 ≡ next_of k (last n by)

-- the first fields of the row of a place are put behind the others, by the row of another place
pub record AddsRow (kind place behind count : ℕ) (old new : List ℕ) : Type 0 where
  pub size : length new ≡ 13 * place + count
  pub kept : (j : ℕ) → j < 13 * place → get_or new j 0 ≡ get_or old j 0
  pub row : (k : ℕ) → k < count → get_or new (13 * place + k) 0 ≡ (if nat_eq k kind then place else get_or old (13 * behind + k) 0)

-- a part of this kind is empty for a match
abbrev pub Empty : List ℕ → Found → ℕ → Type 0
Empty text f k = named text f (unit_of k) ≡ Some []

-- the place of a kind is taken where it is before the other, and its part isn't empty
abbrev pub Further : List ℕ → Found → ℕ → ℕ → ℕ → ℕ → Type 0
Further text f k next most new = ((Empty text f k ⊎ (next ≤ most)) × (new ≡ most))
    ⊎ ((Empty text f k → ⊥) × (most < next) × (new ≡ next))
