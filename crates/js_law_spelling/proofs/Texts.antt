-- Each text's spelling is read as that text.
use Rattle.std.proofs.Common.{◌≡◌, ℕ, zero, suc, ◌+◌, ◌*◌, ◌/◌, ◌%◌, ◌<◌, ◌≤◌, List, [], ◌∷◌, ◌++◌, length, Some, Ok, Bool, true, false, refl, ap, ◌∙◌, append_assoc, length-append, arith}
use Rattle.std.specs.Prelude.{nat_eq, if◌then◌else◌}
use Rattle.std.proofs.lemmas.Bool.Decides.{nat_tests}
use Rattle.std.proofs.lemmas.List.Concat.{flat_map-cons}
use Rattle.std.proofs.lemmas.List.Folds.{list_all-append}
use Rattle.std.specs.List.{list_all}
use Rattle.utf16_text.specs.Escape.{hexadecimal_digit_of, numbered_unit, escaped_unit, escaped}
use Rattle.js_tree.specs.declared.token.TokenKind.TheVariants as token
use Rattle.js_grammar.specs.Reading.{◌>>=◌}
use Rattle.utf16_text.specs.Digits.{is_hexadecimal, digit_of}
use Rattle.js_grammar.specs.Literals.{in_front, numbered_at, text_from, text_at}
use Rattle.js_grammar.specs.Tokens.{piece_at}
use Rattle.utf16_text.specs.Units.{is_unit}
use Rattle.js_law_spelling.proofs.Units.{both_first, both_second, is_printed, printed_no_break}

-- ---- hexadecimal digits

pub digit_is : (n : ℕ) → n < 16 → is_hexadecimal (hexadecimal_digit_of n) ≡ true
digit_is n h = grind (arith, nat_tests)

digit_back : (n : ℕ) → n < 16 → digit_of (hexadecimal_digit_of n) ≡ n
digit_back n h = grind (arith, nat_tests)

four_digits : (u : ℕ) → u < 65536 → ((u / 4096 * 16 + u / 256 % 16) * 16 + u / 16 % 16) * 16 + u % 16 ≡ u
four_digits u h = omega arith

numbered_reads : (a b c d : ℕ) (rest : List ℕ) → a < 16 → b < 16 → c < 16 → d < 16
    → numbered_at 4 (hexadecimal_digit_of a ∷ hexadecimal_digit_of b ∷ hexadecimal_digit_of c ∷ hexadecimal_digit_of d ∷ rest) ≡ Ok (Some (((a * 16 + b) * 16 + c) * 16 + d), 5)
numbered_reads a b c d rest ha hb hc hd =
    let begins : 0 * 16 + a ≡ a = omega arith in
    rw (digit_is a ha, digit_is b hb, digit_is c hc, digit_is d hd, digit_back a ha, digit_back b hb, digit_back c hc, digit_back d hd, begins) refl

-- ---- one unit

-- what reading gives of a text that is spelt with these units in front of others
abbrev IsReadIn : ℕ → ℕ → List ℕ → List ℕ → Type 0
IsReadIn n u units rest = text_from (suc n) 34 (units ++ rest) ≡ (text_from n 34 rest >>= in_front (u ∷ []) (length units))

quote_reads : (n : ℕ) (rest : List ℕ) → IsReadIn n 34 (92 ∷ 34 ∷ []) rest
unfolding text_from
quote_reads n rest = refl

backslash_reads : (n : ℕ) (rest : List ℕ) → IsReadIn n 92 (92 ∷ 92 ∷ []) rest
unfolding text_from
backslash_reads n rest = refl

plain_reads : (n u : ℕ) (rest : List ℕ) → nat_eq u 34 ≡ false → nat_eq u 92 ≡ false → is_printed u ≡ true → IsReadIn n u (u ∷ []) rest
unfolding text_from
plain_reads n u rest no_quote no_backslash printed = rw (no_quote, printed_no_break u printed, no_backslash) refl

by_number_reads : (n u : ℕ) (rest : List ℕ) → u < 65536 → IsReadIn n u (numbered_unit u) rest
unfolding text_from
by_number_reads n u rest h =
    let read = numbered_reads (u / 4096) (u / 256 % 16) (u / 16 % 16) (u % 16) rest (omega arith) (omega arith) (omega arith) (omega arith) in
    rw (read, four_digits u h) refl

pub below : (u : ℕ) → is_unit u ≡ true → u < 65536
below u h = grind (arith, nat_tests)

unit_reads : (n u : ℕ) (rest : List ℕ) → is_unit u ≡ true → IsReadIn n u (escaped_unit true u) rest
unit_reads n u rest h = by_quote (nat_eq u 34) refl
  where
    by_print : (c : Bool) → is_printed u ≡ c → nat_eq u 34 ≡ false → nat_eq u 92 ≡ false → IsReadIn n u (if c then u ∷ [] else numbered_unit u) rest
    by_print true e f g = plain_reads n u rest f g e
    by_print false e f g = by_number_reads n u rest (below u h)

    by_backslash : (b : Bool) → nat_eq u 92 ≡ b → nat_eq u 34 ≡ false → IsReadIn n u (if b then 92 ∷ 92 ∷ [] else if is_printed u then u ∷ [] else numbered_unit u) rest
    by_backslash true e f = let is : u ≡ 92 = grind (arith, nat_tests) in rw is (backslash_reads n rest)
    by_backslash false e f = by_print (is_printed u) refl f e

    by_quote : (a : Bool) → nat_eq u 34 ≡ a → IsReadIn n u (if a then 92 ∷ 34 ∷ [] else if nat_eq u 92 then 92 ∷ 92 ∷ [] else if is_printed u then u ∷ [] else numbered_unit u) rest
    by_quote true e = let is : u ≡ 34 = grind (arith, nat_tests) in rw is (quote_reads n rest)
    by_quote false e = by_backslash (nat_eq u 92) refl e

-- ---- all units

unit_written : (u : ℕ) → 1 ≤ length (escaped_unit true u)
unit_written u = grind arith

escape_length : (x : List ℕ) → length x ≤ length (escaped true x)
escape_length [] = omega arith
escape_length (u ∷ us) = rw (flat_map-cons (escaped_unit true) u us) (omega (arith, length-append (escaped_unit true u) (escaped true us), unit_written u, escape_length us))

both_written : (u : ℕ) (us one others : List ℕ) → (Ok (us, length others + 1) >>= in_front (u ∷ []) (length one)) ≡ Ok (u ∷ us, length (one ++ others) + 1)
both_written u us one others = let sum : length one + (length others + 1) ≡ length (one ++ others) + 1 = omega (arith, length-append one others) in ap (λ (n : ℕ). Ok (u ∷ us, n)) sum

units_read : (n : ℕ) (x rest : List ℕ) → list_all is_unit x ≡ true → length x < n → text_from n 34 (escaped true x ++ 34 ∷ rest) ≡ Ok (x, length (escaped true x) + 1)
unfolding text_from
units_read zero x rest h k = absurd (omega arith)
units_read (suc n) [] rest h k = refl
units_read (suc n) (u ∷ us) rest h k =
    let one = escaped_unit true u in
    let others = escaped true us in
    let short : length us < n = omega arith in
    rw (flat_map-cons (escaped_unit true) u us, append_assoc one others (34 ∷ rest))
    (unit_reads n u (others ++ 34 ∷ rest) (both_first _ _ h)
    ∙ ap (λ r. r >>= in_front (u ∷ []) (length one)) (units_read n us rest (both_second _ _ h) short)
    ∙ both_written u us one others)

-- ---- the whole text

piece_of_text : (dividing : Bool) (us x : List ℕ) (n : ℕ) → text_at 34 us ≡ Ok (x, n) → piece_at dividing (34 ∷ us) ≡ Ok (Some (token.Text x), n + 1)
unfolding piece_at
piece_of_text dividing us x n is = rw is refl

pub text_reads : (dividing : Bool) (x : List ℕ) (gap : ℕ) (rest : List ℕ) → list_all is_unit x ≡ true
    → piece_at dividing ((34 ∷ (escaped true x ++ 34 ∷ [])) ++ gap ∷ rest) ≡ Ok (Some (token.Text x), length (34 ∷ (escaped true x ++ 34 ∷ [])))
text_reads dividing x gap rest h =
    let written = escaped true x in
    let parted : (written ++ 34 ∷ []) ++ gap ∷ rest ≡ written ++ 34 ∷ gap ∷ rest = append_assoc written (34 ∷ []) (gap ∷ rest) in
    let enough : length x < suc (length (written ++ 34 ∷ gap ∷ rest)) = omega (arith, escape_length x, length-append written (34 ∷ gap ∷ rest)) in
    let count : length written + 1 + 1 ≡ suc (length (written ++ 34 ∷ [])) = omega (arith, length-append written (34 ∷ [])) in
    rw parted
    (piece_of_text dividing (written ++ 34 ∷ gap ∷ rest) x (length written + 1) (units_read (suc (length (written ++ 34 ∷ gap ∷ rest))) x (gap ∷ rest) h enough)
    ∙ ap (λ (n : ℕ). Ok (Some (token.Text x), n)) count)

-- ---- the spelling

digit_printed : (n : ℕ) → n < 16 → is_printed (hexadecimal_digit_of n) ≡ true
digit_printed n h = grind (arith, nat_tests)

pub number_printed : (u : ℕ) → u < 65536 → list_all is_printed (numbered_unit u) ≡ true
number_printed u h =
    let first : is_printed (hexadecimal_digit_of (u / 4096)) ≡ true = digit_printed (u / 4096) (omega arith) in
    let second : is_printed (hexadecimal_digit_of (u / 256 % 16)) ≡ true = digit_printed (u / 256 % 16) (omega arith) in
    let third : is_printed (hexadecimal_digit_of (u / 16 % 16)) ≡ true = digit_printed (u / 16 % 16) (omega arith) in
    let last : is_printed (hexadecimal_digit_of (u % 16)) ≡ true = digit_printed (u % 16) (omega arith) in
    rw (first, second, third, last) refl

unit_printed : (u : ℕ) → is_unit u ≡ true → list_all is_printed (escaped_unit true u) ≡ true
unit_printed u h = by_quote (nat_eq u 34)
  where
    by_print : (c : Bool) → is_printed u ≡ c → list_all is_printed (if c then u ∷ [] else numbered_unit u) ≡ true
    by_print true e = rw e refl
    by_print false e = number_printed u (below u h)

    by_backslash : (b : Bool) → list_all is_printed (if b then 92 ∷ 92 ∷ [] else if is_printed u then u ∷ [] else numbered_unit u) ≡ true
    by_backslash true = refl
    by_backslash false = by_print (is_printed u) refl

    by_quote : (a : Bool) → list_all is_printed (if a then 92 ∷ 34 ∷ [] else if nat_eq u 92 then 92 ∷ 92 ∷ [] else if is_printed u then u ∷ [] else numbered_unit u) ≡ true
    by_quote true = refl
    by_quote false = by_backslash (nat_eq u 92)

units_printed : (x : List ℕ) → list_all is_unit x ≡ true → list_all is_printed (escaped true x) ≡ true
units_printed [] h = refl
units_printed (u ∷ us) h =
    let one : list_all is_printed (escaped_unit true u) ≡ true = unit_printed u (both_first _ _ h) in
    let others : list_all is_printed (escaped true us) ≡ true = units_printed us (both_second _ _ h) in
    rw (flat_map-cons (escaped_unit true) u us, list_all-append is_printed (escaped_unit true u) (escaped true us), one, others) refl

pub text_printed : (x : List ℕ) → list_all is_unit x ≡ true → list_all is_printed (34 ∷ (escaped true x ++ 34 ∷ [])) ≡ true
text_printed x h = let all : list_all is_printed (escaped true x) ≡ true = units_printed x h in rw (list_all-append is_printed (escaped true x) (34 ∷ []), all) refl
