-- Each number's spelling is read as that number.
use Rattle.std.proofs.Common.{◌≡◌, ℕ, zero, suc, pos, ◌+◌, ◌*◌, ◌/◌, ◌%◌, ◌^◌, ◌<◌, ◌≤◌, List, [], ◌∷◌, ◌++◌, length, take, drop, Some, Ok, Bool, true, false, ◌&&◌, ◌||◌, decimal, refl, arith}
use Rattle.std.specs.Prelude.{nat_eq, nat_lt, nat_le}
use Rattle.std.proofs.lemmas.Bool.Decides.{nat_tests}
use Rattle.std.proofs.lemmas.Fmt.{decimal_digit, decimal_by_steps}
use Rattle.std.proofs.lemmas.List.Folds.{list_all-append}
use Rattle.std.proofs.lemmas.List.Sums.{fold-append}
use Rattle.std.proofs.Math.Seq.{take-append_seam, drop-append_seam}
use Rattle.std.specs.List.{prefix_len, list_all}
use Rattle.js_tree.specs.declared.token.TokenKind.TheVariants as token
use Rattle.utf16_text.specs.Digits.{is_digit, digit_of, value_of}
use Rattle.js_grammar.specs.Units.{first_passes, begins_with, is_word_start}
use Rattle.js_grammar.specs.Literals.{is_fraction_mark, decimal_at, is_hexadecimal_literal}
use Rattle.js_grammar.specs.Tokens.{number_piece, piece_at}
use Rattle.js_law_spelling.proofs.Units.{both, both_first, both_second, digit_shown, digit_no_start, shown_no_space, run_length}

-- ---- what decimal digits are

-- digits with this value, the first of them no zero unless the value is 0
pub record IsDecimal (n : ℕ) (digits : List ℕ) : Type 0 where
  pub all : list_all is_digit digits ≡ true
  pub some : first_passes is_digit digits ≡ true
  pub value : value_of 10 digits ≡ n
  pub first : 0 < n → begins_with 48 digits ≡ false

one_is_digit : (n : ℕ) → n < 10 → is_digit (48 + n) ≡ true
one_is_digit n h = grind (arith, nat_tests)

digit_back : (n : ℕ) → n < 10 → digit_of (48 + n) ≡ n
digit_back n h = rw (one_is_digit n h) (omega arith)

no_zero : (n : ℕ) → 0 < n → nat_eq (48 + n) 48 ≡ false
no_zero n h = grind (arith, nat_tests)

one_digit : (n : ℕ) → n < 10 → IsDecimal n ((48 + n) ∷ [])
one_digit n h = record {
  all = both (is_digit (48 + n)) true (one_is_digit n h) refl;
  some = one_is_digit n h;
  value = rw (digit_back n h) (omega arith);
  first = no_zero n;
}

still_first : (test : ℕ → Bool) (b : Bool) (digits others : List ℕ) → first_passes is_digit digits ≡ true → first_passes test digits ≡ b → first_passes test (digits ++ others) ≡ b
still_first test b [] others h k = cc
still_first test b (u ∷ us) others h k = k

one_digit_more : (n : ℕ) (digits : List ℕ) → 10 ≤ n → IsDecimal (n / 10) digits → IsDecimal n (digits ++ (48 + n % 10) ∷ [])
one_digit_more n digits h d =
    let small : n % 10 < 10 = omega arith in
    record {
      all = rw (list_all-append is_digit digits ((48 + n % 10) ∷ []), d.all) (both (is_digit (48 + n % 10)) true (one_is_digit (n % 10) small) refl);
      some = still_first is_digit true digits ((48 + n % 10) ∷ []) d.some d.some;
      value = rw (fold-append (λ m u. m * 10 + digit_of u) 0 digits ((48 + n % 10) ∷ []), d.value, digit_back (n % 10) small) (omega arith);
      first = λ positive. still_first (λ v. nat_eq v 48) false digits ((48 + n % 10) ∷ []) d.some (d.first (omega arith));
    }

pub decimal_is : (n : ℕ) → n < 2 ^ 64 → IsDecimal n (decimal n)
decimal_is n h = decimal_by_steps IsDecimal one_digit one_digit_more n h

-- ---- reading

abbrev IsAlone : List ℕ → Type 0
IsAlone digits = (begins_with 48 digits && nat_lt 1 (length digits)) ≡ false

zero_alone : (digits : List ℕ) (n : ℕ) → digits ≡ decimal n → IsDecimal n digits → IsAlone digits
zero_alone digits zero e d = rw (e, decimal_digit 0 (omega arith)) refl
zero_alone digits (suc n) e d = rw (d.first (omega arith)) refl

-- units that may stand behind a number
pub record EndsNumber (gap : ℕ) : Type 0 where
  pub no_digit : is_digit gap ≡ false
  pub no_letter : is_word_start gap ≡ false
  pub no_fraction : is_fraction_mark gap ≡ false

abbrev is_x : ℕ → Bool
is_x u = nat_eq u 120 || nat_eq u 88

digit_no_x : (u : ℕ) → is_digit u ≡ true → is_x u ≡ false
digit_no_x u h = grind (arith, nat_tests)

other_no_x : (u : ℕ) → is_word_start u ≡ false → is_x u ≡ false
other_no_x u h = grind (arith, nat_tests)

no_x : (us : List ℕ) (gap : ℕ) (rest : List ℕ) → list_all is_digit us ≡ true → EndsNumber gap → first_passes is_x (us ++ gap ∷ rest) ≡ false
no_x [] gap rest all ends = other_no_x gap ends.no_letter
no_x (u ∷ us) gap rest all ends = digit_no_x u (both_first _ _ all)

second_fails : (a b : Bool) → b ≡ false → (a && b) ≡ false
second_fails true b h = h
second_fails false b h = refl

not_hexadecimal : (u : ℕ) (us : List ℕ) (gap : ℕ) (rest : List ℕ) → list_all is_digit us ≡ true → EndsNumber gap → is_hexadecimal_literal (u ∷ us ++ gap ∷ rest) ≡ false
not_hexadecimal u us gap rest all ends = second_fails (nat_eq u 48) (first_passes is_x (us ++ gap ∷ rest)) (no_x us gap rest all ends)

decimal_of_run : (us digits behind : List ℕ) (value n : ℕ) → prefix_len is_digit us ≡ n → take n us ≡ digits → drop n us ≡ behind → (begins_with 48 us && nat_lt 1 n) ≡ false
    → first_passes is_fraction_mark behind ≡ false → value_of 10 digits ≡ value → first_passes is_word_start behind ≡ false → nat_lt 9007199254740991 value ≡ false
    → decimal_at us ≡ Ok (pos value, n)
decimal_of_run us digits behind value n run front back alone whole is ends small = rw (run, front, back, alone, whole, is, ends, small) refl

piece_of_number : (us : List ℕ) (value n : ℕ) → is_hexadecimal_literal us ≡ false → decimal_at us ≡ Ok (pos value, n) → number_piece us ≡ Ok (Some (token.Number (pos value)), n)
piece_of_number us value n decimal is = rw (decimal, is) refl

at_digit : (dividing : Bool) (u : ℕ) (us : List ℕ) → is_digit u ≡ true → piece_at dividing (u ∷ us) ≡ number_piece (u ∷ us)
unfolding piece_at
at_digit dividing u us digit = rw (shown_no_space u (digit_shown u digit), digit_no_start u digit, digit) refl

within_limit : (n : ℕ) → nat_le n 9007199254740991 ≡ true → nat_lt 9007199254740991 n ≡ false
within_limit n h = grind (arith, nat_tests)

digits_read : (dividing : Bool) (digits : List ℕ) (n gap : ℕ) (rest : List ℕ) → IsDecimal n digits → IsAlone digits → nat_le n 9007199254740991 ≡ true → EndsNumber gap
    → piece_at dividing (digits ++ gap ∷ rest) ≡ Ok (Some (token.Number (pos n)), length digits)
digits_read dividing [] n gap rest d alone small ends = let none : false ≡ true = d.some in cc
digits_read dividing (u ∷ us) n gap rest d alone small ends =
    let others : list_all is_digit us ≡ true = both_second _ _ d.all in
    let whole : decimal_at (u ∷ us ++ gap ∷ rest) ≡ Ok (pos n, length (u ∷ us)) =
    decimal_of_run (u ∷ us ++ gap ∷ rest) (u ∷ us) (gap ∷ rest) n (length (u ∷ us)) (run_length is_digit (u ∷ us) gap rest d.all ends.no_digit)
    (take-append_seam (u ∷ us) (gap ∷ rest)) (drop-append_seam (u ∷ us) (gap ∷ rest)) alone ends.no_fraction d.value ends.no_letter (within_limit n small) in
    rw (at_digit dividing u (us ++ gap ∷ rest) d.some) (piece_of_number (u ∷ us ++ gap ∷ rest) n (length (u ∷ us)) (not_hexadecimal u us gap rest others ends) whole)

fits : (n : ℕ) → nat_le n 9007199254740991 ≡ true → n < 2 ^ 64
fits n h = let limit : n ≤ 9007199254740991 = grind (arith, nat_tests) in omega arith

pub number_reads : (dividing : Bool) (n gap : ℕ) (rest : List ℕ) → nat_le n 9007199254740991 ≡ true → EndsNumber gap → piece_at dividing (decimal n ++ gap ∷ rest) ≡ Ok (Some (token.Number (pos n)), length (decimal n))
number_reads dividing n gap rest small ends =
    let d = decimal_is n (fits n small) in
    digits_read dividing (decimal n) n gap rest d (zero_alone (decimal n) n refl d) small ends

-- ---- the spelling

pub number_digits : (n : ℕ) → nat_le n 9007199254740991 ≡ true → list_all is_digit (decimal n) ≡ true
number_digits n small = (decimal_is n (fits n small)).all

pub number_begins : (n : ℕ) → nat_le n 9007199254740991 ≡ true → first_passes is_digit (decimal n) ≡ true
number_begins n small = (decimal_is n (fits n small)).some
