-- The length of a text that is put together.
use Rattle.std.proofs.Common.{◌≡◌, ℕ, ◌+◌, ◌<◌, ◌≤◌, min, List, ◌++◌, cond, length, take, drop, sym, subst, ap, ◌∙◌, arith, length-append}
use Rattle.std.proofs.lemmas.Bool.{le-leb, lt-leb}
use Rattle.text_builtins.specs.declared.call.TextResult.TheVariants.{Text, TooLong}
use Rattle.text_builtins.specs.Joining.{made_text}
use Rattle.text_builtins.specs.Replacing.{expanded, capped_length, replaced_at}
use Rattle.utf16_text.specs.declared.limits.TheConstants.{LONGEST_TEXT}

made_text-long : (a e b : List ℕ) → LONGEST_TEXT < length a + min (length e) (LONGEST_TEXT + 1) + length b → made_text (a ++ e ++ b) ≡ TooLong
made_text-long a e b h =
    ap (λ t. cond t (Text (a ++ e ++ b)) TooLong) (lt-leb (length (a ++ e ++ b)) LONGEST_TEXT (omega (arith, length-append {A = ℕ})))

made_text-fits : (a e b : List ℕ) → length a + min (length e) (LONGEST_TEXT + 1) + length b ≤ LONGEST_TEXT → made_text (a ++ e ++ b) ≡ Text (a ++ e ++ b)
made_text-fits a e b h =
    ap (λ t. cond t (Text (a ++ e ++ b)) TooLong) (le-leb (length (a ++ e ++ b)) LONGEST_TEXT (omega (arith, length-append {A = ℕ})))

module _ (units part by before behind : List ℕ) (at size : ℕ)
    (front : before ≡ take at units) (back : behind ≡ drop (at + length part) units)
    (counted : size ≡ capped_length by before part behind) where
  whole : made_text (before ++ expanded before part behind by ++ behind) ≡ replaced_at units at part by
  whole =
      ap (λ b. made_text (b ++ expanded b part behind by ++ behind)) front
      ∙ ap (λ a. made_text (take at units ++ expanded (take at units) part a by ++ a)) back

  pub replaced_at-long : LONGEST_TEXT < length before + size + length behind → TooLong ≡ replaced_at units at part by
  replaced_at-long h =
      sym (made_text-long before (expanded before part behind by) behind
      (let P : ℕ → Type 0 = λ n. LONGEST_TEXT < length before + n + length behind in subst P counted h))
      ∙ whole

  pub replaced_at-fits : (text : List ℕ) → text ≡ before ++ expanded before part behind by ++ behind
      → length before + size + length behind ≤ LONGEST_TEXT → Text text ≡ replaced_at units at part by
  replaced_at-fits text e h =
      ap Text e
      ∙ sym (made_text-fits before (expanded before part behind by) behind
      (let P : ℕ → Type 0 = λ n. length before + n + length behind ≤ LONGEST_TEXT in subst P counted h))
      ∙ whole
