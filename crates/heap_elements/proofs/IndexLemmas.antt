-- An array index and its numeral.
use Rattle.std.proofs.Common.{◌≡◌, ℕ, ◌+◌, ◌*◌, ◌-◌, ◌<◌, ◌≤◌, ◌^◌, zero, suc, List, [], ◌∷◌, Bool, true, false, cond, Option, Some, None, length, get_or, refl, sym, ap, ◌∙◌, arith, ⊎_elim}
use Rattle.std.specs.Prelude.{nat_lt, nat_eq, ◌&&◌, ◌||◌}
use Rattle.std.specs.Fmt.{decimal}
use Rattle.std.specs.Str.{bytes_eq}
use Rattle.std.specs.Str.Parse.{AllDigits, digits_value_after, digits_value as value_of_digits}
use Rattle.std.specs.Char.{digit_value}
use Rattle.std.proofs.lemmas.Str.{digit_value_digit}
use Rattle.std.proofs.lemmas.Bool.{cases_Bool}
use Rattle.std.proofs.lemmas.Bool.Decides.{nat_tests}
use Rattle.std.proofs.lemmas.Slice.Eq.{bytes_eq-Decides}
use Rattle.std.proofs.lemmas.Fmt.{decimal_is_IsNumeral, decimal-digits_value, decimal_injective, first_decimal, length-decimal-le, decimal_digit}
use Rattle.std.proofs.lemmas.Str.Parse.{numerals_by_value, tells_digits, digit_from_value}
use Rattle.heap_elements.specs.Names.{digits_value, below_index_limit, array_index}
use Rattle.heap_elements.proofs.RowLemmas.{same_name}

-- where a numeral spells a number, all its units are digits, and they are those of the number
record Spells (so_far n : ℕ) (us : List ℕ) : Type 0 where
  digits : AllDigits 10 us
  value : digits_value_after 10 so_far us ≡ n

digit_spelled : (b : Bool) (so_far n : ℕ) (us : List ℕ) → cond b None (digits_value so_far us) ≡ Some n → (b ≡ false) × (digits_value so_far us ≡ Some n)
digit_spelled true so_far n us is = absurd (cc)
digit_spelled false so_far n us is = (refl, is)

spelled : (so_far n : ℕ) (us : List ℕ) → digits_value so_far us ≡ Some n → Spells so_far n us
spelled so_far n [] is = record { digits = tt; value = (let e : so_far ≡ n = cc in e) }
spelled so_far n (u ∷ us) is =
    let first = digit_spelled (nat_lt u 48 || nat_lt 57 u) (so_far * 10 + (u - 48)) n us is in
    let within : (48 ≤ u) × (u ≤ 57) = (let e = first.0 in (grind (arith, nat_tests), grind (arith, nat_tests))) in
    let value = digit_value_digit u within in
    let rest = spelled (so_far * 10 + (u - 48)) n us first.1 in
    let same : so_far * 10 + digit_value u ≡ so_far * 10 + (u - 48) = omega arith in
    record { digits = (omega arith, rest.digits); value = ap (λ m. digits_value_after 10 m us) same ∙ rest.value }

spells : (so_far : ℕ) (us : List ℕ) → AllDigits 10 us → digits_value so_far us ≡ Some (digits_value_after 10 so_far us)
spells so_far [] digits = refl
spells so_far (u ∷ us) digits =
    let within = digit_from_value u digits.0 in
    let value = digit_value_digit u within in
    let same : so_far * 10 + (u - 48) ≡ so_far * 10 + digit_value u = omega arith in
    let test : (nat_lt u 48 || nat_lt 57 u) ≡ false = grind (arith, nat_tests, within.0, within.1) in
    ap (λ b. cond b None (digits_value (so_far * 10 + (u - 48)) us)) test
    ∙ ap (λ m. digits_value m us) same
    ∙ spells (so_far * 10 + digit_value u) us digits.1

below : (n : ℕ) → n < 4294967295 → below_index_limit (Some n) ≡ Some n
below n small = let test : nat_lt n 4294967295 ≡ true = grind (arith, nat_tests) in ap (λ b. cond b (Some n) None) test

plain_index : (us : List ℕ) (n : ℕ) → 0 < length us → length us ≤ 10 → (get_or us 0 0 ≡ 48 → length us ≡ 1) → AllDigits 10 us → value_of_digits 10 us ≡ n → n < 4294967295
    → array_index us ≡ Some n
plain_index [] n some short lead digits value small = absurd (omega arith)
plain_index (u ∷ us) n some short lead digits value small =
    let long : nat_lt 9 (length us) ≡ false = grind (arith, nat_tests) in
    let zero_first : (nat_eq u 48 && nat_lt 0 (length us)) ≡ false = grind (arith, nat_tests) in
    ap (λ b. cond (b || (nat_eq u 48 && nat_lt 0 (length us))) None (below_index_limit (digits_value 0 (u ∷ us)))) long
    ∙ ap (λ b. cond b None (below_index_limit (digits_value 0 (u ∷ us)))) zero_first
    ∙ ap below_index_limit (spells 0 (u ∷ us) digits ∙ ap (λ m. Some m) value)
    ∙ below n small

leads : (n : ℕ) → n < 4294967295 → get_or (decimal n) 0 0 ≡ 48 → length (decimal n) ≡ 1
leads zero small lead = ap length (decimal_digit 0 (omega arith))
leads (suc n) small lead = absurd (omega (arith, first_decimal (suc n) (omega arith) (omega arith)))

-- the numeral of an array index is the name of that index
pub array_index-decimal : (n : ℕ) → n < 4294967295 → array_index (decimal n) ≡ Some n
array_index-decimal n small =
    let numeral = decimal_is_IsNumeral n (omega arith) in
    plain_index (decimal n) n numeral.0.0 (length-decimal-le 10 n (omega arith) (omega arith) (omega arith)) (leads n small) numeral.0.1 numeral.1 small

-- what the tests of an index say
record IsIndex (n : ℕ) (o : Option ℕ) : Type 0 where
  is : o ≡ Some n
  small : n < 4294967295

below_limit : (b : Bool) (m n : ℕ) → nat_lt m 4294967295 ≡ b → cond b (Some m) None ≡ Some n → IsIndex n (Some m)
below_limit true m n test is = let same : m ≡ n = cc in record { is = is; small = grind (arith, nat_tests) }
below_limit false m n test is = absurd (cc)

limited : (o : Option ℕ) (n : ℕ) → below_index_limit o ≡ Some n → IsIndex n o
limited None n is = absurd (cc)
limited (Some m) n is = below_limit (nat_lt m 4294967295) m n refl is

tested : (b : Bool) (o : Option ℕ) (n : ℕ) → cond b None o ≡ Some n → (b ≡ false) × (o ≡ Some n)
tested true o n is = absurd (cc)
tested false o n is = (refl, is)

-- and a name that is an array index is its numeral
pub decimal-array_index : (name : List ℕ) (n : ℕ) → array_index name ≡ Some n → (name ≡ decimal n) × (n < 4294967295)
decimal-array_index [] n is = absurd (cc)
decimal-array_index (u ∷ us) n is =
    let tests = tested (nat_lt 9 (length us) || (nat_eq u 48 && nat_lt 0 (length us))) (below_index_limit (digits_value 0 (u ∷ us))) n is in
    let within = limited (digits_value 0 (u ∷ us)) n tests.1 in
    let spelling = spelled 0 n (u ∷ us) within.is in
    let lead : get_or (u ∷ us) 0 0 ≡ 48 → length (u ∷ us) ≡ 1 = (λ zero_first. let plain = tests.0 in grind (arith, nat_tests)) in
    let small : value_of_digits 10 (u ∷ us) < 2 ^ 64 = omega (arith, spelling.value, within.small) in
    let numeral = decimal-digits_value (numerals_by_value (AllDigits 10) tells_digits) (u ∷ us) spelling.digits (omega arith) lead small in
    (sym numeral ∙ ap decimal spelling.value, within.small)

-- a number past the array indexes has none
pub no_array_index : (n : ℕ) → 4294967295 ≤ n → n < 4294967296 → array_index (decimal n) ≡ None
no_array_index n large small = none (array_index (decimal n)) refl
  where
    none : (o : Option ℕ) → array_index (decimal n) ≡ o → o ≡ None
    none None is = refl
    none (Some m) is = absurd (
        let index = decimal-array_index (decimal n) m is in
        let same = decimal_injective n m (omega arith) (omega (arith, index.1)) index.0 in
        omega (arith, index.1))

-- numerals of two numbers differ
pub numerals_differ : (m n : ℕ) → m < 4294967296 → n < 4294967296 → (m ≡ n → ⊥) → bytes_eq (decimal m) (decimal n) ≡ false
numerals_differ m n small small' differ = ⊎_elim
    (λ same. absurd (differ (decimal_injective m n (omega arith) (omega arith) (same_name (decimal m) (decimal n) same))))
    (λ apart. apart)
    (cases_Bool (bytes_eq (decimal m) (decimal n)))

pub same_numeral : (us : List ℕ) → bytes_eq us us ≡ true
same_numeral us = (bytes_eq-Decides us us).1 refl
