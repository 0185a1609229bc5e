-- Whether bytes are a text.
use Rattle.std.proofs.Common.{◌≡◌, List, ℕ, Bool, true, false, Bor, Result, Ok, Err, is_some, sym, refl}
use Rattle.std.specs.Result.{MatchResult, result_ok}
use Rattle.std.specs.Str.{IsUtf8, is_utf8}
use Rattle.std.proofs.lemmas.Str.{IsUtf8-from_is_utf8, is_utf8-from_IsUtf8}

no_text : (bytes : List ℕ) → (IsUtf8 bytes → ⊥) → is_utf8 bytes ≡ false
no_text bytes refused = go (is_utf8 bytes) refl
  where
    go : (b : Bool) → is_utf8 bytes ≡ b → b ≡ false
    go true e = absurd (refused (IsUtf8-from_is_utf8 bytes e))
    go false e = refl

-- `to_str` gives a text where the test holds
pub gives_text : {E : Type 0} (bytes : List ℕ) (F : E → Type 0) (r : Result (Bor (List ℕ)) E) → MatchResult r (λ text. (text.now ≡ bytes) × IsUtf8 bytes) (λ e. ¬ (IsUtf8 bytes) × F e) → is_some (result_ok r) ≡ is_utf8 bytes
gives_text bytes F (Ok text) told = sym (is_utf8-from_IsUtf8 bytes told.1)
gives_text bytes F (Err e) told = sym (no_text bytes told.0)
