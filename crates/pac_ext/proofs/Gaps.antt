-- One step of the search for `::`.
use Rattle.std.proofs.Common.{◌≡◌, ℕ, ◌+◌, ◌<◌, ◌≤◌, Bool, true, false, cond, ◌&&◌, List, [], ◌∷◌, length, drop, Some, None, refl, ap, arith}
use Rattle.std.specs.Prelude.{nat_eq, codes}
use Rattle.std.proofs.lemmas.List.{length-drop}
use Rattle.utf16_text.specs.Search.{first_place}

abbrev pub gap : List ℕ
gap = codes "::"

pub miss : (u v : ℕ) (rest : List ℕ) (k : ℕ) → (nat_eq 58 u && (nat_eq 58 v && true)) ≡ false → first_place gap (u ∷ v ∷ rest) k ≡ first_place gap (v ∷ rest) (k + 1)
miss u v rest k e = ap (λ b. cond b (Some k) (first_place gap (v ∷ rest) (k + 1))) e

pub short : (us : List ℕ) (k : ℕ) → length us < 2 → first_place gap us k ≡ None
short [] k h = refl
short (u ∷ []) k h = elim_one (nat_eq 58 u) where
  elim_one : (b : Bool) → cond (b && false) (Some k) None ≡ None
  elim_one true = refl
  elim_one false = refl
short (u ∷ v ∷ rest) k h = absurd (omega arith)

-- in fewer than two units there is none
pub gap-nowhere : (units : List ℕ) (place : ℕ) → length units ≤ place + 1 → first_place gap (drop place units) place ≡ None
gap-nowhere units place h = short (drop place units) place (omega (arith, length-drop place units))
