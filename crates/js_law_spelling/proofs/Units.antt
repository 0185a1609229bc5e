-- Classes of units, and what runs of units of a class are.
use Rattle.std.proofs.Common.{◌≡◌, ℕ, suc, ◌+◌, List, [], ◌∷◌, ◌++◌, length, take, Bool, true, false, cond, ◌&&◌, ◌||◌, refl, arith}
use Rattle.std.proofs.lemmas.Bool.Decides.{nat_tests}
use Rattle.std.specs.List.{prefix_len, list_all}
use Rattle.utf16_text.specs.Letters.{is_between, is_break_unit, is_space_unit}
use Rattle.utf16_text.specs.Digits.{is_digit}
use Rattle.js_grammar.specs.Units.{is_word_start, is_word_part, has_break}

-- ---- tests

pub both_first : (a b : Bool) → (a && b) ≡ true → a ≡ true
both_first true b h = refl
both_first false b h = h

pub both_second : (a b : Bool) → (a && b) ≡ true → b ≡ true
both_second true b h = h
both_second false b h = cc

pub both : (a b : Bool) → a ≡ true → b ≡ true → (a && b) ≡ true
both true b h k = k
both false b h k = h

pub neither : (a b : Bool) → a ≡ false → b ≡ false → (a || b) ≡ false
neither true b h k = h
neither false b h k = k

-- ---- ASCII

-- a unit of ASCII that is neither a space nor a control
abbrev pub is_shown : ℕ → Bool
is_shown u = is_between 33 126 u

pub shown_no_space : (u : ℕ) → is_shown u ≡ true → is_space_unit u ≡ false
shown_no_space u h = grind (arith, nat_tests)

-- a unit of ASCII that is no control
abbrev pub is_printed : ℕ → Bool
is_printed u = is_between 32 126 u

pub shown_printed : (u : ℕ) → is_shown u ≡ true → is_printed u ≡ true
shown_printed u h = grind (arith, nat_tests)

pub printed_no_break : (u : ℕ) → is_printed u ≡ true → is_break_unit u ≡ false
printed_no_break u h = grind (arith, nat_tests)

pub printed_unbroken : (us : List ℕ) → list_all is_printed us ≡ true → has_break us ≡ false
printed_unbroken [] h = refl
printed_unbroken (u ∷ us) h = neither (is_break_unit u) (has_break us) (printed_no_break u (both_first _ _ h)) (printed_unbroken us (both_second _ _ h))

pub start_shown : (u : ℕ) → is_word_start u ≡ true → is_shown u ≡ true
start_shown u h = grind (arith, nat_tests)

pub part_shown : (u : ℕ) → is_word_part u ≡ true → is_shown u ≡ true
part_shown u h = grind (arith, nat_tests)

pub digit_shown : (u : ℕ) → is_digit u ≡ true → is_shown u ≡ true
digit_shown u h = grind (arith, nat_tests)

pub digit_no_start : (u : ℕ) → is_digit u ≡ true → is_word_start u ≡ false
digit_no_start u h = grind (arith, nat_tests)

-- ---- runs

pub all_weaker : (p q : ℕ → Bool) → ((u : ℕ) → p u ≡ true → q u ≡ true) → (us : List ℕ) → list_all p us ≡ true → list_all q us ≡ true
all_weaker p q weaker [] h = refl
all_weaker p q weaker (u ∷ us) h = both (q u) (list_all q us) (weaker u (both_first _ _ h)) (all_weaker p q weaker us (both_second _ _ h))

-- a run ends where a unit that is none of it stands
pub run_length : (test : ℕ → Bool) (run : List ℕ) (gap : ℕ) (rest : List ℕ) → list_all test run ≡ true → test gap ≡ false → prefix_len test (run ++ gap ∷ rest) ≡ length run
run_length test [] gap rest all stop = rw stop refl
run_length test (u ∷ us) gap rest all stop =
    let first : test u ≡ true = both_first (test u) (list_all test us) all in
    let others : prefix_len test (us ++ gap ∷ rest) ≡ length us = run_length test us gap rest (both_second (test u) (list_all test us) all) stop in
    rw (first, others) (omega arith)

first_of_run : (test : ℕ → Bool) (u n : ℕ) (us : List ℕ) (b : Bool) → test u ≡ b → list_all test (take n us) ≡ true → list_all test (take (cond b (1 + n) 0) (u ∷ us)) ≡ true
first_of_run test u n us true e others = let one : 1 + n ≡ suc n = omega arith in rw (one, e) others
first_of_run test u n us false e others = refl

pub run_passes : (test : ℕ → Bool) (us : List ℕ) → list_all test (take (prefix_len test us) us) ≡ true
run_passes test [] = refl
run_passes test (u ∷ us) = first_of_run test u (prefix_len test us) us (test u) refl (run_passes test us)
