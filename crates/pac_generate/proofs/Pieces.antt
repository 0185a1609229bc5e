-- Pieces of a text, one after the other.
use Rattle.std.proofs.Common.{◌≡◌, ℕ, List, ◌++◌, Result, Ok, Err, sym, ◌∙◌, append_assoc}
use Rattle.std.specs.Prelude.{IfOk}

-- a text that is this is also what is equal to it
pub told_as : {T E : Type 0} (view : T → List ℕ) (r : Result T E) (x y : List ℕ) → x ≡ y → IfOk r (λ t. view t ≡ x) → IfOk r (λ t. view t ≡ y)
told_as view (Ok t) x y e h = h ∙ e
told_as view (Err why) x y e h = tt

pub five_pieces : (a b c d e : List ℕ) → a ++ (b ++ (c ++ (d ++ e))) ≡ a ++ b ++ c ++ d ++ e
five_pieces a b c d e = sym (simp append_assoc)

pub seven_pieces : (a b c d e f g : List ℕ) → a ++ (b ++ (c ++ (d ++ (e ++ (f ++ g))))) ≡ a ++ b ++ c ++ d ++ e ++ f ++ g
seven_pieces a b c d e f g = sym (simp append_assoc)
