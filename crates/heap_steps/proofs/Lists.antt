-- A list of which the first part is taken.
use Rattle.std.proofs.lemmas.Grind.{common_steps}
use Rattle.std.proofs.Common.{◌≡◌, ℕ, ◌<◌, ◌≤◌, List, [], ◌∷◌, length, get_or, take, drop, ◌-◌, refl, ap, sym, arith}

pub list_step : {X : Type 0} (xs : List X) (x : X) → x ≡ get_or xs 0 x → 1 ≤ length xs → xs ≡ x ∷ drop 1 xs
list_step [] x e h = absurd (omega arith)
list_step (y ∷ ys) x e h = ap (λ z. z ∷ ys) (sym e)

pub list_end : {X : Type 0} (xs : List X) → length xs < 1 → xs ≡ []
list_end [] h = refl
list_end (y ∷ ys) h = absurd (omega arith)

take_whole : {X : Type 0} (xs : List X) (n : ℕ) → n ≡ length xs → take n xs ≡ xs
take_whole xs n e = grind (arith, common_steps)

-- what `rest` is in `[x, rest @ ..]`
pub list_rest : {X : Type 0} (xs : List X) → take (length xs - 1) (drop 1 xs) ≡ drop 1 xs
list_rest [] = refl
list_rest (y ∷ ys) = take_whole ys (length (y ∷ ys) - 1) (omega arith)
