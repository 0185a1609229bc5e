-- What reading gives of number and text literals can be spelt.
use Rattle.std.proofs.Common.{◌≡◌, ℕ, zero, suc, ◌+◌, ◌<◌, ◌≤◌, ℤ, List, [], ◌∷◌, ◌++◌, length, take, drop, Option, Some, None, option_to_list, Result, Ok, Err, Bool, true, false, ◌&&◌, not, refl, subst, take_all, length-take, arith}
use Rattle.std.specs.Prelude.{nat_eq, nat_lt, nat_le, if◌then◌else◌}
use Rattle.std.proofs.lemmas.Bool.Decides.{nat_tests}
use Rattle.std.specs.List.{prefix_len, list_all}
use Rattle.utf16_text.specs.Letters.{is_break_unit}
use Rattle.js_grammar.specs.Reading.{◌>>=◌}
use Rattle.utf16_text.specs.Digits.{is_digit, is_hexadecimal, digit_of, value_of}
use Rattle.js_grammar.specs.Units.{first_passes, begins_with, is_word_start}
use Rattle.js_grammar.specs.Literals.{is_fraction_mark, literal, hexadecimal_at, decimal_at, is_hexadecimal_literal, number_at, numbered_at, escape_of, escape_at, character_at, text_from}
use Rattle.utf16_text.specs.Units.{is_unit}
use Rattle.js_law_spelling.specs.Spellable.{is_literal}
use Rattle.js_law_spelling.proofs.Units.{both, both_first, both_second, run_passes}

-- ---- answers

-- what holds of the answer, where there is one
abbrev pub Gives : {A E : Type 0} → (A → Type 0) → Result A E → Type 0
Gives P (Ok x) = P x
Gives P (Err e) = Unit {0}

pub step : {A B E : Type 0} {P : A → Type 0} (Q : B → Type 0) (m : Result A E) (f : A → Result B E) → Gives P m → ((x : A) → P x → Gives Q (f x)) → Gives Q (m >>= f)
step Q (Ok x) f h k = k x h
step Q (Err e) f h k = tt

pub chosen : {A E : Type 0} (P : A → Type 0) (b : Bool) (x y : Result A E) → (b ≡ true → Gives P x) → (b ≡ false → Gives P y) → Gives P (if b then x else y)
chosen P true x y h k = h refl
chosen P false x y h k = k refl

-- ---- numbers

abbrev pub IsLiteral : ℤ × ℕ → Type 0
IsLiteral x = is_literal x.0 ≡ true

within_limit : (n : ℕ) → nat_lt 9007199254740991 n ≡ false → nat_le n 9007199254740991 ≡ true
within_limit n h = grind (arith, nat_tests)

literal_gives : (value n : ℕ) (behind : List ℕ) → Gives IsLiteral (literal value n behind)
literal_gives value n behind =
    chosen IsLiteral (first_passes is_word_start behind) _ _ (λ _. tt) (λ _. chosen IsLiteral (nat_lt 9007199254740991 value) _ _ (λ _. tt) (λ small. within_limit value small))

hexadecimal_gives : (us : List ℕ) → Gives IsLiteral (hexadecimal_at us)
hexadecimal_gives us = let n = prefix_len is_hexadecimal us in chosen IsLiteral (nat_eq n 0) _ _ (λ _. tt) (λ _. literal_gives (value_of 16 (take n us)) (n + 2) (drop n us))

decimal_gives : (us : List ℕ) → Gives IsLiteral (decimal_at us)
decimal_gives us =
    let n = prefix_len is_digit us in
    chosen IsLiteral (begins_with 48 us && nat_lt 1 n) _ _ (λ _. tt)
    (λ _. chosen IsLiteral (first_passes is_fraction_mark (drop n us)) _ _ (λ _. tt) (λ _. literal_gives (value_of 10 (take n us)) n (drop n us)))

pub number_gives : (us : List ℕ) → Gives IsLiteral (number_at us)
number_gives us = chosen IsLiteral (is_hexadecimal_literal us) _ _ (λ _. hexadecimal_gives (drop 2 us)) (λ _. decimal_gives us)

-- ---- the value of hexadecimal digits

digit_small : (u : ℕ) → is_hexadecimal u ≡ true → digit_of u < 16
digit_small u h = grind (arith, nat_tests)

abbrev AreHexadecimal : List ℕ → Type 0
AreHexadecimal us = list_all is_hexadecimal us ≡ true

first_small : (u : ℕ) (us : List ℕ) → AreHexadecimal (u ∷ us) → digit_of u < 16
first_small u us h = digit_small u (both_first _ _ h)

others_too : (u : ℕ) (us : List ℕ) → AreHexadecimal (u ∷ us) → AreHexadecimal us
others_too u us h = both_second (is_hexadecimal u) (list_all is_hexadecimal us) h

value_small : (us : List ℕ) → length us ≤ 4 → AreHexadecimal us → value_of 16 us < 65536
value_small [] short h = omega arith
value_small (a ∷ []) short h = omega (arith, first_small a [] h)
value_small (a ∷ b ∷ []) short h = omega (arith, first_small a (b ∷ []) h, first_small b [] (others_too a (b ∷ []) h))
value_small (a ∷ b ∷ c ∷ []) short h =
    let behind = others_too a (b ∷ c ∷ []) h in
    omega (arith, first_small a (b ∷ c ∷ []) h, first_small b (c ∷ []) behind, first_small c [] (others_too b (c ∷ []) behind))
value_small (a ∷ b ∷ c ∷ d ∷ []) short h =
    let behind = others_too a (b ∷ c ∷ d ∷ []) h in
    let last = others_too b (c ∷ d ∷ []) behind in
    omega (arith, first_small a (b ∷ c ∷ d ∷ []) h, first_small b (c ∷ d ∷ []) behind, first_small c (d ∷ []) last, first_small d [] (others_too c (d ∷ []) last))
value_small (a ∷ b ∷ c ∷ d ∷ e ∷ us) short h = absurd (omega arith)

-- a run that is as long as the list is the list
all_digits : (k : ℕ) (us : List ℕ) → length us ≤ k → nat_eq (prefix_len is_hexadecimal us) k ≡ true → AreHexadecimal us
all_digits k us short h =
    let long : prefix_len is_hexadecimal us ≡ k = grind (arith, nat_tests) in
    subst AreHexadecimal (take_all (prefix_len is_hexadecimal us) us (omega arith)) (run_passes is_hexadecimal us)

-- ---- one character of a text

-- a unit of 16 bits, or none
abbrev IsUnitOrNone : Option ℕ × ℕ → Type 0
IsUnitOrNone x = list_all is_unit (option_to_list x.0) ≡ true

one_unit : (u n : ℕ) → is_unit u ≡ true → IsUnitOrNone (Some u, n)
one_unit u n h = both (is_unit u) true h refl

small_unit : (u : ℕ) → u < 65536 → is_unit u ≡ true
small_unit u h = grind (arith, nat_tests)

numbered_gives : (k : ℕ) (us : List ℕ) → k ≤ 4 → Gives IsUnitOrNone (numbered_at k us)
numbered_gives k us small =
    let front = take k us in
    let short : length front ≤ k = omega (arith, length-take k us) in
    chosen IsUnitOrNone (nat_eq (prefix_len is_hexadecimal front) k) _ _
    (λ all. one_unit (value_of 16 front) (k + 1) (small_unit (value_of 16 front) (value_small front (omega arith) (all_digits k front short all))))
    (λ _. tt)

stands_for : (u : ℕ) → is_unit u ≡ true → is_unit (escape_of u) ≡ true
stands_for u h = grind (arith, nat_tests)

escape_gives : (us : List ℕ) → list_all is_unit us ≡ true → Gives IsUnitOrNone (escape_at us)
escape_gives [] h = tt
escape_gives (u ∷ us) h =
    chosen IsUnitOrNone (is_break_unit u) _ _ (λ _. refl)
    (λ _. chosen IsUnitOrNone (nat_eq u 120) _ _ (λ _. numbered_gives 2 us (omega arith))
    (λ _. chosen IsUnitOrNone (nat_eq u 117) _ _ (λ _. numbered_gives 4 us (omega arith))
    (λ _. chosen IsUnitOrNone (nat_eq u 48 && not (first_passes is_digit us)) _ _ (λ _. refl)
    (λ _. chosen IsUnitOrNone (is_digit u) _ _ (λ _. tt)
    (λ _. one_unit (escape_of u) 1 (stands_for u (both_first _ _ h)))))))

character_gives : (u : ℕ) (us : List ℕ) → list_all is_unit (u ∷ us) ≡ true → Gives IsUnitOrNone (character_at u us)
character_gives u us h =
    chosen IsUnitOrNone (nat_eq u 92) _ _
    (λ _. step IsUnitOrNone (escape_at us) _ (escape_gives us (both_second _ _ h)) (λ x k. k))
    (λ _. one_unit u 1 (both_first _ _ h))

-- ---- texts

pub drop_passes : (test : ℕ → Bool) (n : ℕ) (us : List ℕ) → list_all test us ≡ true → list_all test (drop n us) ≡ true
drop_passes test zero us h = h
drop_passes test (suc n) [] h = h
drop_passes test (suc n) (u ∷ us) h = drop_passes test n us (both_second _ _ h)

abbrev pub AreUnits : List ℕ × ℕ → Type 0
AreUnits x = list_all is_unit x.0 ≡ true

put_in_front : (o : Option ℕ) (units : List ℕ) → list_all is_unit (option_to_list o) ≡ true → list_all is_unit units ≡ true → list_all is_unit (option_to_list o ++ units) ≡ true
put_in_front None units h k = k
put_in_front (Some u) units h k = both (is_unit u) (list_all is_unit units) (both_first _ _ h) k

pub text_gives : (n quote : ℕ) (us : List ℕ) → list_all is_unit us ≡ true → Gives AreUnits (text_from n quote us)
unfolding text_from
text_gives zero quote us h = tt
text_gives (suc n) quote [] h = tt
text_gives (suc n) quote (u ∷ us) h =
    chosen AreUnits (nat_eq u quote) _ _ (λ _. refl)
    (λ _. chosen AreUnits (is_break_unit u) _ _ (λ _. tt)
    (λ _. step AreUnits (character_at u us) _ (character_gives u us h)
    (λ x one. step AreUnits (text_from n quote (drop x.1 (u ∷ us))) _ (text_gives n quote (drop x.1 (u ∷ us)) (drop_passes is_unit x.1 (u ∷ us) h))
    (λ y others. put_in_front x.0 y.0 one others))))
