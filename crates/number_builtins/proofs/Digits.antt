-- The digits of a number, from the last one on.
use Rattle.std.proofs.Common.{◌≡◌, ℕ, ◌≤◌, ◌/◌, ◌%◌, List, [], ◌∷◌, ◌++◌, cond, map, sym, ap, ◌∙◌, arith, append_assoc, ⊎_elim}
use Rattle.std.specs.Prelude.{reverse}
use Rattle.std.specs.Char.{digit_char}
use Rattle.std.specs.Int.Digits.{digits_of}
use Rattle.std.proofs.Math.Nat.{zero-div, zero-mod}
use Rattle.std.proofs.lemmas.Bool.{ne_eqb, cases_eq}
use Rattle.std.proofs.lemmas.List.{map-append, reverse-append}
use Rattle.std.proofs.lemmas.Int.Digits.{digits_of_step}
use Rattle.number_builtins.specs.Numerals.{digits_text}

-- a number above 0 has the digits of its quotient, then its remainder
digits-step : (radix n : ℕ) → 2 ≤ radix → (n ≡ 0 → ⊥)
    → digits_text radix n ≡ map digit_char (digits_of radix (n / radix)) ++ digit_char (n % radix) ∷ []
digits-step radix n two some =
    ap (λ b. cond b (48 ∷ []) (map digit_char (digits_of radix n))) (ne_eqb n 0 some)
    ∙ ap (map digit_char) (digits_of_step radix n two (omega arith))
    ∙ map-append digit_char (digits_of radix (n / radix)) (n % radix ∷ [])

last-of-zero : (radix n : ℕ) → n ≡ 0 → digits_text radix n ≡ digit_char (n % radix) ∷ []
last-of-zero radix n e =
    ap (digits_text radix) e ∙ sym (ap (λ m. digit_char m ∷ []) (ap (λ m. m % radix) e ∙ zero-mod radix))

-- where the quotient is 0 there is one digit
last-digit : (radix n : ℕ) → 2 ≤ radix → n / radix ≡ 0 → digits_text radix n ≡ digit_char (n % radix) ∷ []
last-digit radix n two none =
    ⊎_elim
    (λ (e : n ≡ 0). last-of-zero radix n e)
    (λ (some : n ≡ 0 → ⊥).
    digits-step radix n two some ∙ ap (λ q. map digit_char (digits_of radix q) ++ digit_char (n % radix) ∷ []) none)
    (cases_eq n 0)

-- else those of the quotient stand before it
more-digits : (radix n : ℕ) → 2 ≤ radix → (n / radix ≡ 0 → ⊥)
    → digits_text radix n ≡ digits_text radix (n / radix) ++ digit_char (n % radix) ∷ []
more-digits radix n two more =
    digits-step radix n two (λ e. more (ap (λ m. m / radix) e ∙ zero-div radix))
    ∙ sym (ap (λ b. cond b (48 ∷ []) (map digit_char (digits_of radix (n / radix))) ++ digit_char (n % radix) ∷ []) (ne_eqb (n / radix) 0 more))

pub push-last : (units : List ℕ) (radix n : ℕ) → 2 ≤ radix → n / radix ≡ 0
    → units ++ digit_char (n % radix) ∷ [] ≡ units ++ reverse (digits_text radix n)
push-last units radix n two none = ap (λ ds. units ++ reverse ds) (sym (last-digit radix n two none))

pub push-more : (units : List ℕ) (radix n : ℕ) → 2 ≤ radix → (n / radix ≡ 0 → ⊥)
    → (units ++ digit_char (n % radix) ∷ []) ++ reverse (digits_text radix (n / radix)) ≡ units ++ reverse (digits_text radix n)
push-more units radix n two more =
    append_assoc units (digit_char (n % radix) ∷ []) (reverse (digits_text radix (n / radix)))
    ∙ ap (λ ds. units ++ ds)
    (sym (ap reverse (more-digits radix n two more) ∙ reverse-append (digits_text radix (n / radix)) (digit_char (n % radix) ∷ [])))
