-- Names and messages of errors.
use Rattle.std.proofs.Common.{◌≡◌, ℕ, List, [], ◌∷◌, ◌++◌, Bool, true, false, length, codes, refl, arith}
use Rattle.js_evaluation.specs.Natives.{joined}

pub joined_none : (name message : List ℕ) → length name ≡ 0 → joined name message ≡ message
joined_none [] message h = refl
joined_none (u ∷ us) message h = absurd (omega (arith, h))

pub joined_name : (name message : List ℕ) → (length name ≡ 0 → ⊥) → length message ≡ 0 → joined name message ≡ name
joined_name [] message n h = absurd (n refl)
joined_name (u ∷ us) [] n h = refl
joined_name (u ∷ us) (v ∷ vs) n h = absurd (omega (arith, h))

pub joined_both : (name message : List ℕ) → (length name ≡ 0 → ⊥) → (length message ≡ 0 → ⊥) → joined name message ≡ name ++ (codes ": " ++ message)
joined_both [] message n h = absurd (n refl)
joined_both (u ∷ us) [] n h = absurd (h refl)
joined_both (u ∷ us) (v ∷ vs) n h = refl

-- what a test doesn't find isn't there
pub never : {P : Type 0} (b : Bool) → (P → b ≡ true) → b ≡ false → P → ⊥
never b f h p = let t : b ≡ true = f p in cc
