-- Where a text may be cut: beside a blank, and at its ends.
use Rattle.std.proofs.Common.{◌≡◌, ℕ, zero, suc, ◌+◌, ◌-◌, ◌<◌, ◌≤◌, ◌⊎◌, inl, inr, Bool, true, false, not, List, length, get_or, reverse, sym, ap, ◌∙◌, subst, refl, arith}
use Rattle.std.proofs.lemmas.Bool.{cases_lt}
use Rattle.std.proofs.lemmas.Bool.Decides.{nat_tests}
use Rattle.std.proofs.lemmas.List.{get_or-reverse}
use Rattle.std.proofs.lemmas.List.Sums.{prefix_len-le-length, prefix_len_passes, prefix_len_stops}
use Rattle.std.proofs.lemmas.Str.{IsCharBoundary-start, IsCharBoundary-end, IsCharBoundary-before_ascii, IsCharBoundary-after_ascii}
use Rattle.std.specs.List.{prefix_len}
use Rattle.std.specs.Str.{IsUtf8, IsCharBoundary}
use Rattle.batch_text.specs.Lines.{is_blank, word_length}

-- a blank is one byte
blank_is_ascii : (byte : ℕ) → is_blank byte ≡ true → byte < 128
blank_is_ascii byte blank = grind (arith, nat_tests)

not_not : (b : Bool) → not b ≡ false → b ≡ true
not_not true e = refl
not_not false e = sym e

-- behind the word
pub word_cut : (line : List ℕ) (n : ℕ) → n ≡ word_length line → IsCharBoundary line n
word_cut line n is = subst (IsCharBoundary line) (sym is) (at (cases_lt (word_length line) (length line)))
  where
    at : (word_length line < length line) ⊎ (length line ≤ word_length line) → IsCharBoundary line (word_length line)
    at (inl inside) =
        IsCharBoundary-before_ascii line _ inside (blank_is_ascii _ (not_not _ (prefix_len_stops (λ byte. not (is_blank byte)) line 0 inside)))
    at (inr end) =
        let le : word_length line ≤ length line = prefix_len-le-length _ line in
        let e : length line ≡ word_length line = omega arith in
        subst (IsCharBoundary line) e (IsCharBoundary-end line)

-- behind the blanks in front
pub indent_cut : (text : List ℕ) (n : ℕ) → IsUtf8 text → n ≡ prefix_len is_blank text → IsCharBoundary text n
indent_cut text zero utf8 is = IsCharBoundary-start text utf8
indent_cut text (suc m) utf8 is =
    let le : prefix_len is_blank text ≤ length text = prefix_len-le-length _ text in
    let inside : m < length text = omega arith in
    let blank : is_blank (get_or text m 0) ≡ true = prefix_len_passes is_blank text m 0 (omega arith) in
    let e : m + 1 ≡ suc m = omega arith in
    subst (IsCharBoundary text) e (IsCharBoundary-after_ascii text m utf8 inside (blank_is_ascii _ blank))

-- before the blanks at the end
pub end_cut : (text : List ℕ) (n : ℕ) → n ≡ prefix_len is_blank (reverse text) → n ≤ length text → IsCharBoundary text (length text - n)
end_cut text zero is within =
    let e : length text ≡ length text - 0 = omega arith in
    subst (IsCharBoundary text) e (IsCharBoundary-end text)
end_cut text (suc m) is within =
    let blank : is_blank (get_or (reverse text) m 0) ≡ true = prefix_len_passes is_blank (reverse text) m 0 (omega arith) in
    let inside : m < length text = omega arith in
    let e : length text - 1 - m ≡ length text - suc m = omega arith in
    let at : get_or (reverse text) m 0 ≡ get_or text (length text - suc m) 0 = get_or-reverse text m 0 inside ∙ ap (λ k. get_or text k 0) e in
    IsCharBoundary-before_ascii text _ (omega arith) (blank_is_ascii _ (ap is_blank (sym at) ∙ blank))
