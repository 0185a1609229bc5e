-- What a text begins with.
use Rattle.std.proofs.Common.{◌≡◌, ℕ, List, [], ◌∷◌, ◌++◌, ◌&&◌, nat_eq, length, slice_get, refl, rules}
use Rattle.std.specs.List.{starts_with}
use Rattle.pac_functions.specs.Texts.{is_next}

-- a text begins with another and a unit where it begins with the other, and this unit comes next
pub label_behind : (unit : ℕ) (text front : List ℕ) → starts_with nat_eq text (front ++ unit ∷ []) ≡ (starts_with nat_eq text front && is_next unit (slice_get text (length front)))
label_behind unit [] [] = refl
label_behind unit (u ∷ us) [] = search rules
label_behind unit [] (f ∷ fs) = refl
label_behind unit (u ∷ us) (f ∷ fs) = rw (label_behind unit us fs) search rules
