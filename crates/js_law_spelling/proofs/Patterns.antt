-- Each pattern literal's spelling is read as that literal, and what reading gives of one can be spelt.
use Rattle.std.proofs.Common.{◌≡◌, ◌⊎◌, inl, inr, ℕ, zero, suc, ◌+◌, ◌<◌, List, [], ◌∷◌, ◌++◌, length, take, drop, Option, Some, None, Result, Ok, Err, Bool, true, false, ◌&&◌, refl, sym, ap, ◌∙◌, subst, append_assoc, length-append, arith}
use Rattle.std.specs.Prelude.{nat_eq, ◌/◌, ◌%◌, option_map, is_ok, if◌then◌else◌}
use Rattle.std.specs.List.{list_all, flat_map}
use Rattle.std.proofs.lemmas.Bool.Decides.{nat_tests}
use Rattle.std.proofs.lemmas.List.Concat.{flat_map-cons}
use Rattle.std.proofs.lemmas.List.Folds.{list_all-append}
use Rattle.std.proofs.Math.Seq.{take-append_seam}
use Rattle.utf16_text.specs.Letters.{is_break_unit}
use Rattle.utf16_text.specs.Digits.{is_hexadecimal}
use Rattle.utf16_text.specs.Escape.{hexadecimal_digit_of, numbered_unit}
use Rattle.utf16_text.specs.Units.{is_unit}
use Rattle.js_pattern.specs.Pattern.{PatternTree}
use Rattle.js_pattern_reader.specs.declared.answer.PatternAnswer.{PatternAnswer}
use Rattle.js_pattern_reader.specs.Literal.{Literal}
use Rattle.js_pattern_reader.specs.Reading.{pattern_of}
use Rattle.js_tree.specs.declared.token.TokenKind.TheVariants as token
use Rattle.js_tree.specs.declared.refusal.ReadKind.{ReadKind}
use Rattle.js_grammar.specs.Units.{first_passes, begins_with, is_word_part}
use Rattle.js_grammar.specs.Patterns.{escapes, class_behind, ends_body, body_length_from, body_length, is_plain, ascii_unit, kept_unit, kept_from, kept, literal_by, literal_of, flags_at, pattern_by, pattern_at}
use Rattle.js_grammar.specs.Spelling.{pattern_spelling}
use Rattle.js_grammar.specs.Tokens.{pattern_piece, piece_at}
use Rattle.js_law_spelling.specs.Spellable.{comes_to, begins_body, is_body, is_pattern_literal}
use Rattle.js_law_spelling.proofs.Units.{both, both_first, both_second, is_printed, part_shown, shown_printed, all_weaker, run_length, run_passes}
use Rattle.js_law_spelling.proofs.Texts.{digit_is, below, number_printed}
use Rattle.js_law_spelling.proofs.Read.{Gives, step}

-- ---- tests

first_of_both : (b : Bool) → (b && true) ≡ false → b ≡ false
first_of_both true h = h
first_of_both false h = refl

never : (b : Bool) → (b && false) ≡ false
never true = refl
never false = refl

-- ---- one unit of a scan

-- behind an escaped unit none is escaped
escaped_once : (u : ℕ) → escapes true u ≡ false
escaped_once u = never (nat_eq u 92)

-- an escaped unit ends nothing
escaped_stays : (within : Bool) (u : ℕ) → ends_body true within u ≡ false
escaped_stays within u = never (nat_eq u 47)

-- an end is in no class
outside : (escaped within : Bool) (u : ℕ) → ends_body escaped within u ≡ true → within ≡ false
outside true within u h = let e : false ≡ true = both_second (nat_eq u 47) false h in cc
outside false true u h = let e : false ≡ true = both_second (nat_eq u 47) false h in cc
outside false false u h = refl

-- the scan goes on behind a unit that ends nothing
goes_on : (escaped within : Bool) (u n : ℕ) (us : List ℕ) → is_break_unit u ≡ false → ends_body escaped within u ≡ false
    → body_length_from (escapes escaped u) (class_behind escaped within u) us ≡ Some n → body_length_from escaped within (u ∷ us) ≡ Some (suc n)
goes_on escaped within u n us unbroken stays h = let one : n + 1 ≡ suc n = omega arith in rw (unbroken, stays, h, one) refl

-- what a scan that comes to m found of its first unit: the end, or a unit of the body
abbrev Found : Bool → Bool → ℕ → List ℕ → ℕ → Type 0
Found escaped within u us m =
    ((ends_body escaped within u ≡ true) × (m ≡ 0))
    ⊎ ((is_break_unit u ≡ false) × (ends_body escaped within u ≡ false) × ((n : ℕ) × (m ≡ suc n) × (body_length_from (escapes escaped u) (class_behind escaped within u) us ≡ Some n)))

found : (escaped within : Bool) (u m : ℕ) (us : List ℕ) → body_length_from escaped within (u ∷ us) ≡ Some m → Found escaped within u us m
found escaped within u m us h = by_break (is_break_unit u) refl h
  where
    by_count : (o : Option ℕ) → body_length_from (escapes escaped u) (class_behind escaped within u) us ≡ o → is_break_unit u ≡ false → ends_body escaped within u ≡ false → option_map (λ n. n + 1) o ≡ Some m → Found escaped within u us m
    by_count None e unbroken stays h = cc
    by_count (Some n) e unbroken stays h = let same : n + 1 ≡ m = cc in inr (unbroken, stays, (n, omega (arith, same), e))

    by_end : (b : Bool) → ends_body escaped within u ≡ b → is_break_unit u ≡ false → (if b then Some 0 else option_map (λ n. n + 1) (body_length_from (escapes escaped u) (class_behind escaped within u) us)) ≡ Some m → Found escaped within u us m
    by_end true e unbroken h = let same : 0 ≡ m = cc in inl (e, sym same)
    by_end false e unbroken h = by_count (body_length_from (escapes escaped u) (class_behind escaped within u) us) refl unbroken e h

    by_break : (b : Bool) → is_break_unit u ≡ b → (if b then None else if ends_body escaped within u then Some 0 else option_map (λ n. n + 1) (body_length_from (escapes escaped u) (class_behind escaped within u) us)) ≡ Some m → Found escaped within u us m
    by_break true e h = cc
    by_break false e h = by_end (ends_body escaped within u) refl e h

-- a scan that comes to a unit more than n comes to n behind its first
scan_behind : (escaped within : Bool) (u n : ℕ) (us : List ℕ) → body_length_from escaped within (u ∷ us) ≡ Some (suc n) → body_length_from (escapes escaped u) (class_behind escaped within u) us ≡ Some n
scan_behind escaped within u n us h = by_found (found escaped within u (suc n) us h)
  where
    by_found : Found escaped within u us (suc n) → body_length_from (escapes escaped u) (class_behind escaped within u) us ≡ Some n
    by_found (inl f) = cc (f.1)
    by_found (inr f) = let same : f.2.0 ≡ n = omega (arith, f.2.1) in f.2.2 ∙ ap (λ (m : ℕ). Some m) same

-- ---- a body that is kept

plain_unbroken : (u : ℕ) → is_plain u ≡ true → is_break_unit u ≡ false
plain_unbroken u h = grind (arith, nat_tests)

-- with the `\` that escapes the unit behind it
abbrev with_escape : Bool → List ℕ → List ℕ
with_escape true us = 92 ∷ us
with_escape false us = us

kept_plain_unit : (escaped : Bool) (u : ℕ) (us others : List ℕ) → is_plain u ≡ true → others ≡ with_escape (escapes escaped u) us → kept_unit escaped u ++ others ≡ with_escape escaped (u ∷ us)
kept_plain_unit true u us others plain h =
    let behind : others ≡ us = subst (λ b. others ≡ with_escape b us) (escaped_once u) h in
    rw (escaped_once u, plain) (ap (λ vs. 92 ∷ u ∷ vs) behind)
kept_plain_unit false u us others plain h = by_escape (nat_eq u 92) refl h
  where
    by_escape : (b : Bool) → nat_eq u 92 ≡ b → others ≡ with_escape (b && true) us → (if b && true then [] else if is_plain u then u ∷ [] else numbered_unit u) ++ others ≡ u ∷ us
    by_escape true e h = let is : u ≡ 92 = grind (arith, nat_tests) in rw is h
    by_escape false e h = rw plain (ap (λ vs. u ∷ vs) h)

-- a body in ASCII that a slash ends is kept as it is
kept_same : (escaped within : Bool) (us : List ℕ) → list_all is_plain us ≡ true → body_length_from escaped within (us ++ 47 ∷ []) ≡ Some (length us) → kept_from escaped us ≡ with_escape escaped us
kept_same true within [] plain h = by_found (found true within 47 0 [] h)
  where
    by_found : Found true within 47 [] 0 → kept_from true [] ≡ with_escape true []
    by_found (inl f) = let e : true ≡ false = sym f.0 ∙ escaped_stays within 47 in cc
    by_found (inr f) = let e : 0 ≡ suc f.2.0 = f.2.1 in cc
kept_same false within [] plain h = refl
kept_same escaped within (u ∷ us) plain h =
    kept_plain_unit escaped u us (kept_from (escapes escaped u) us) (both_first _ _ plain)
    (kept_same (escapes escaped u) (class_behind escaped within u) us (both_second _ _ plain) (scan_behind escaped within u (length us) (us ++ 47 ∷ []) h))

-- ---- where a body ends, whatever stands behind its slash

body_ends : (escaped within : Bool) (us more : List ℕ) → body_length_from escaped within (us ++ 47 ∷ []) ≡ Some (length us) → body_length_from escaped within (us ++ 47 ∷ more) ≡ Some (length us)
body_ends escaped within [] more h = by_found (found escaped within 47 0 [] h)
  where
    by_found : Found escaped within 47 [] 0 → body_length_from escaped within (47 ∷ more) ≡ Some 0
    by_found (inl f) = rw f.0 refl
    by_found (inr f) = let e : 0 ≡ suc f.2.0 = f.2.1 in cc
body_ends escaped within (u ∷ us) more h =
    by_found (body_ends (escapes escaped u) (class_behind escaped within u) us more (scan_behind escaped within u (length us) (us ++ 47 ∷ []) h)) (found escaped within u (suc (length us)) (us ++ 47 ∷ []) h)
  where
    by_found : body_length_from (escapes escaped u) (class_behind escaped within u) (us ++ 47 ∷ more) ≡ Some (length us) → Found escaped within u (us ++ 47 ∷ []) (suc (length us)) → body_length_from escaped within (u ∷ (us ++ 47 ∷ more)) ≡ Some (suc (length us))
    by_found behind (inl f) = cc (f.1)
    by_found behind (inr f) = goes_on escaped within u (length us) (us ++ 47 ∷ more) f.0 f.1 behind

-- ---- what is kept ends where it did: escaping makes and hides no slash, bracket or backslash

-- a scan goes through these units, from within to behind
abbrev Through : Bool → Bool → List ℕ → Type 0
Through within behind us = (n : ℕ) (rest : List ℕ) → body_length_from false behind rest ≡ Some n → body_length_from false within (us ++ rest) ≡ Some (length us + n)

-- behind a unit that isn't escaped and escapes none
plain_on : (within behind : Bool) (u n : ℕ) (rest : List ℕ) → is_break_unit u ≡ false → ends_body false within u ≡ false → escapes false u ≡ false → class_behind false within u ≡ behind
    → body_length_from false behind rest ≡ Some n → body_length_from false within (u ∷ rest) ≡ Some (suc n)
plain_on within behind u n rest unbroken stays free class h = goes_on false within u n rest unbroken stays (rw (free, class) h)

-- behind a `\` and the unit that it escapes
escaped_on : (within : Bool) (u n : ℕ) (rest : List ℕ) → is_break_unit u ≡ false → body_length_from false within rest ≡ Some n → body_length_from false within (92 ∷ u ∷ rest) ≡ Some (suc (suc n))
escaped_on true u n rest unbroken h = goes_on false true 92 (suc n) (u ∷ rest) refl refl (goes_on true true u n rest unbroken (escaped_stays true u) (rw (escaped_once u) h))
escaped_on false u n rest unbroken h = goes_on false false 92 (suc n) (u ∷ rest) refl refl (goes_on true false u n rest unbroken (escaped_stays false u) (rw (escaped_once u) h))

-- which units open, close, end and escape nothing
record IsQuiet (u : ℕ) : Type 0 where
  unbroken : is_break_unit u ≡ false
  no_slash : nat_eq u 47 ≡ false
  no_backslash : nat_eq u 92 ≡ false
  no_open : nat_eq u 91 ≡ false
  no_close : nat_eq u 93 ≡ false

quiet_class : (within : Bool) (u : ℕ) → IsQuiet u → class_behind false within u ≡ within
quiet_class true u q = rw q.no_close refl
quiet_class false u q = q.no_open

quiet_on : (within : Bool) (u n : ℕ) (rest : List ℕ) → IsQuiet u → body_length_from false within rest ≡ Some n → body_length_from false within (u ∷ rest) ≡ Some (suc n)
quiet_on within u n rest q h = plain_on within within u n rest q.unbroken (rw q.no_slash refl) (rw q.no_backslash refl) (quiet_class within u q) h

digit_quiet : (u : ℕ) → is_hexadecimal u ≡ true → IsQuiet u
digit_quiet u h = record {
  unbroken = grind (arith, nat_tests);
  no_slash = grind (arith, nat_tests);
  no_backslash = grind (arith, nat_tests);
  no_open = grind (arith, nat_tests);
  no_close = grind (arith, nat_tests);
}

numbered_through : (within : Bool) (u : ℕ) → u < 65536 → Through within within (numbered_unit u)
numbered_through within u small n rest h =
    let a = hexadecimal_digit_of (u / 4096) in
    let b = hexadecimal_digit_of (u / 256 % 16) in
    let c = hexadecimal_digit_of (u / 16 % 16) in
    let d = hexadecimal_digit_of (u % 16) in
    let last = quiet_on within d n rest (digit_quiet d (digit_is (u % 16) (omega arith))) h in
    let third = quiet_on within c (suc n) (d ∷ rest) (digit_quiet c (digit_is (u / 16 % 16) (omega arith))) last in
    let second = quiet_on within b (suc (suc n)) (c ∷ d ∷ rest) (digit_quiet b (digit_is (u / 256 % 16) (omega arith))) third in
    let first = quiet_on within a (suc (suc (suc n))) (b ∷ c ∷ d ∷ rest) (digit_quiet a (digit_is (u / 4096) (omega arith))) second in
    let count : suc (suc (suc (suc (suc (suc n))))) ≡ 6 + n = omega arith in
    escaped_on within 117 (suc (suc (suc (suc n)))) (a ∷ b ∷ c ∷ d ∷ rest) refl first ∙ ap (λ (m : ℕ). Some m) count

-- a unit that isn't plain is none of those that a scan looks at
strange_class : (within : Bool) (u : ℕ) → is_plain u ≡ false → class_behind false within u ≡ within
strange_class true u h = let no_close : nat_eq u 93 ≡ false = grind (arith, nat_tests) in rw no_close refl
strange_class false u h = grind (arith, nat_tests)

backslash_class : (within : Bool) (u : ℕ) → nat_eq u 92 ≡ true → class_behind false within u ≡ within
backslash_class true u h = let no_close : nat_eq u 93 ≡ false = grind (arith, nat_tests) in rw no_close refl
backslash_class false u h = grind (arith, nat_tests)

one_more : (n : ℕ) → suc n ≡ 1 + n
one_more n = omega arith

two_more : (n : ℕ) → suc (suc n) ≡ 2 + n
two_more n = omega arith

-- a unit of a body, as it is kept
unit_through : (escaped within : Bool) (u : ℕ) → is_unit u ≡ true → is_break_unit u ≡ false → ends_body escaped within u ≡ false → Through within (class_behind escaped within u) (kept_unit escaped u)
unit_through true within u bits unbroken stays n rest h = rw (escaped_once u) (by_plain (is_plain u))
  where
    by_plain : (b : Bool) → body_length_from false within ((if b then 92 ∷ u ∷ [] else if b then u ∷ [] else numbered_unit u) ++ rest) ≡ Some (length (if b then 92 ∷ u ∷ [] else if b then u ∷ [] else numbered_unit u) + n)
    by_plain true = escaped_on within u n rest unbroken h ∙ ap (λ (m : ℕ). Some m) (two_more n)
    by_plain false = numbered_through within u (below u bits) n rest h
unit_through false within u bits unbroken stays n rest h = by_escape (nat_eq u 92) refl
  where
    by_plain : (b : Bool) → is_plain u ≡ b → nat_eq u 92 ≡ false → body_length_from false within ((if b then u ∷ [] else numbered_unit u) ++ rest) ≡ Some (length (if b then u ∷ [] else numbered_unit u) + n)
    by_plain true e free = plain_on within (class_behind false within u) u n rest unbroken stays (rw free refl) refl h ∙ ap (λ (m : ℕ). Some m) (one_more n)
    by_plain false e free = numbered_through within u (below u bits) n rest (subst (λ b. body_length_from false b rest ≡ Some n) (strange_class within u e) h)

    by_escape : (b : Bool) → nat_eq u 92 ≡ b → body_length_from false within ((if b && true then [] else if is_plain u then u ∷ [] else numbered_unit u) ++ rest) ≡ Some (length (if b && true then [] else if is_plain u then u ∷ [] else numbered_unit u) + n)
    by_escape true e = let none : n ≡ 0 + n = omega arith in subst (λ b. body_length_from false b rest ≡ Some n) (backslash_class within u e) h ∙ ap (λ (m : ℕ). Some m) none
    by_escape false e = by_plain (is_plain u) refl e

kept_ends : (escaped within : Bool) (us : List ℕ) (m : ℕ) → list_all is_unit us ≡ true → body_length_from escaped within us ≡ Some m
    → body_length_from false within (kept_from escaped (take m us) ++ 47 ∷ []) ≡ Some (length (kept_from escaped (take m us)))
kept_ends escaped within [] m bits h = cc
kept_ends escaped within (u ∷ us) zero bits h = by_found (found escaped within u 0 us h)
  where
    by_found : Found escaped within u us 0 → body_length_from false within (47 ∷ []) ≡ Some 0
    by_found (inl f) = rw (outside escaped within u f.0) refl
    by_found (inr f) = cc (f.2.1)
kept_ends escaped within (u ∷ us) (suc n) bits h =
    by_found (kept_ends (escapes escaped u) (class_behind escaped within u) us n (both_second _ _ bits) (scan_behind escaped within u n us h)) (found escaped within u (suc n) us h)
  where
    one : List ℕ
    one = kept_unit escaped u

    others : List ℕ
    others = kept_from (escapes escaped u) (take n us)

    by_found : body_length_from false (class_behind escaped within u) (others ++ 47 ∷ []) ≡ Some (length others) → Found escaped within u us (suc n) → body_length_from false within ((one ++ others) ++ 47 ∷ []) ≡ Some (length (one ++ others))
    by_found behind (inl f) = cc (f.1)
    by_found behind (inr f) = rw (append_assoc one others (47 ∷ []), length-append one others) (unit_through escaped within u (both_first _ _ bits) f.0 f.1 (length others) (others ++ 47 ∷ []) behind)

-- ---- it is in ASCII

unit_plain : (escaped : Bool) (u : ℕ) → is_unit u ≡ true → list_all is_plain (kept_unit escaped u) ≡ true
unit_plain escaped u bits = by_escape (escapes escaped u)
  where
    ascii : (b : Bool) → is_plain u ≡ b → list_all is_plain (if b then u ∷ [] else numbered_unit u) ≡ true
    ascii true e = rw e refl
    ascii false e = number_printed u (below u bits)

    by_plain : (b : Bool) → is_plain u ≡ b → list_all is_plain (if escaped && b then 92 ∷ u ∷ [] else if b then u ∷ [] else numbered_unit u) ≡ true
    by_plain b e = by_both (escaped && b) refl
      where
        by_both : (c : Bool) → (escaped && b) ≡ c → list_all is_plain (if c then 92 ∷ u ∷ [] else if b then u ∷ [] else numbered_unit u) ≡ true
        by_both true is = let plain : is_plain u ≡ true = e ∙ both_second escaped b is in rw plain refl
        by_both false is = ascii b e

    by_escape : (b : Bool) → list_all is_plain (if b then [] else if escaped && is_plain u then 92 ∷ u ∷ [] else if is_plain u then u ∷ [] else numbered_unit u) ≡ true
    by_escape true = refl
    by_escape false = by_plain (is_plain u) refl

kept_plain : (escaped : Bool) (us : List ℕ) → list_all is_unit us ≡ true → list_all is_plain (kept_from escaped us) ≡ true
kept_plain escaped [] bits = refl
kept_plain escaped (u ∷ us) bits =
    let one = unit_plain escaped u (both_first _ _ bits) in
    let others = kept_plain (escapes escaped u) us (both_second _ _ bits) in
    rw (list_all-append is_plain (kept_unit escaped u) (kept_from (escapes escaped u) us), one, others) refl

take_passes : (test : ℕ → Bool) (n : ℕ) (us : List ℕ) → list_all test us ≡ true → list_all test (take n us) ≡ true
take_passes test zero us h = refl
take_passes test (suc n) [] h = refl
take_passes test (suc n) (u ∷ us) h = both (test u) (list_all test (take n us)) (both_first _ _ h) (take_passes test n us (both_second _ _ h))

-- ---- it begins as a body does

escaped_begins : (u : ℕ) (others : List ℕ) → first_passes begins_body (kept_unit true u ++ others) ≡ true
escaped_begins u others = rw (escaped_once u) (by_plain (is_plain u))
  where
    by_plain : (b : Bool) → first_passes begins_body ((if b then 92 ∷ u ∷ [] else if b then u ∷ [] else numbered_unit u) ++ others) ≡ true
    by_plain true = refl
    by_plain false = refl

-- behind a `\` there is a unit that it escapes
escaped_some : (within : Bool) (us : List ℕ) (m : ℕ) → body_length_from true within us ≡ Some m → first_passes begins_body (kept_from true (take m us)) ≡ true
escaped_some within [] m h = cc
escaped_some within (u ∷ us) m h = by_found (found true within u m us h)
  where
    by_found : Found true within u us m → first_passes begins_body (kept_from true (take m (u ∷ us))) ≡ true
    by_found (inl f) = let e : true ≡ false = sym f.0 ∙ escaped_stays within u in cc
    by_found (inr f) = rw f.2.1 (escaped_begins u (kept_from (escapes true u) (take f.2.0 us)))

unit_begins : (u : ℕ) (others : List ℕ) → nat_eq u 42 ≡ false → nat_eq u 92 ≡ false → first_passes begins_body (kept_unit false u ++ others) ≡ true
unit_begins u others star free = rw free (by_plain (is_plain u))
  where
    by_plain : (b : Bool) → first_passes begins_body ((if b then u ∷ [] else numbered_unit u) ++ others) ≡ true
    by_plain true = rw star refl
    by_plain false = refl

kept_begins : (us : List ℕ) (m : ℕ) → begins_with 47 us ≡ false → begins_with 42 us ≡ false → body_length us ≡ Some m → first_passes begins_body (kept (take m us)) ≡ true
kept_begins [] m slash star h = cc
kept_begins (u ∷ us) m slash star h = by_found (found false false u m us h)
  where
    by_escape : (n : ℕ) → body_length_from (escapes false u) (class_behind false false u) us ≡ Some n → (b : Bool) → nat_eq u 92 ≡ b → first_passes begins_body (kept_from false (u ∷ take n us)) ≡ true
    by_escape n h true e = let rest : body_length_from true (class_behind false false u) us ≡ Some n = subst (λ b. body_length_from (b && true) (class_behind false false u) us ≡ Some n) e h in rw e (escaped_some (class_behind false false u) us n rest)
    by_escape n h false e = unit_begins u (kept_from (escapes false u) (take n us)) star e

    by_found : Found false false u us m → first_passes begins_body (kept (take m (u ∷ us))) ≡ true
    by_found (inl f) = let is : nat_eq u 47 ≡ true = both_first (nat_eq u 47) true f.0 in let e : true ≡ false = sym is ∙ slash in cc
    by_found (inr f) = rw f.2.1 (by_escape f.2.0 f.2.2 (nat_eq u 92) refl)

-- ---- what reading gives of a pattern literal

length_comes : (n : ℕ) → comes_to n (Some n) ≡ true
length_comes n = grind (arith, nat_tests)

-- the body of a literal, as it is kept
body_is : (us : List ℕ) (m : ℕ) → list_all is_unit us ≡ true → begins_with 47 us ≡ false → begins_with 42 us ≡ false → body_length us ≡ Some m → is_body (kept (take m us)) ≡ true
body_is us m bits slash star h =
    let body = kept (take m us) in
    let first : first_passes begins_body body ≡ true = kept_begins us m slash star h in
    let plain : list_all is_plain body ≡ true = kept_plain false (take m us) (take_passes is_unit m us bits) in
    let ends : body_length (body ++ 47 ∷ []) ≡ Some (length body) = kept_ends false false us m bits h in
    rw (first, plain, ends) (length_comes (length body))

-- a literal is the one of its body and flags
literal_is : (body flags : List ℕ) (l : Literal) → literal_of body flags ≡ Ok l → record { body = body; flags = flags } ≡ l
unfolding literal_of
literal_is body flags l h = by_pattern (pattern_of body flags) h
  where
    by_pattern : (r : Result PatternTree PatternAnswer) → literal_by (record { body = body; flags = flags }) r ≡ Ok l → record { body = body; flags = flags } ≡ l
    by_pattern (Ok p) h = cc
    by_pattern (Err e) h = cc

abbrev IsLiteralAt : Literal × ℕ → Type 0
IsLiteralAt x = is_pattern_literal x.0 ≡ true

literal_gives : (body flags : List ℕ) → is_body body ≡ true → list_all is_word_part flags ≡ true → (r : Result Literal ReadKind) → literal_of body flags ≡ r → Gives (λ l. is_pattern_literal l ≡ true) r
literal_gives body flags is parts (Ok l) h =
    let same : record { body = body; flags = flags } ≡ l = literal_is body flags l h in
    let all : is_pattern_literal (record { body = body; flags = flags }) ≡ true = rw (is, parts, h) refl in
    subst (λ k. is_pattern_literal k ≡ true) same all
literal_gives body flags is parts (Err e) h = tt

pub pattern_gives : (us : List ℕ) → list_all is_unit us ≡ true → begins_with 47 us ≡ false → begins_with 42 us ≡ false → Gives IsLiteralAt (pattern_at us)
unfolding pattern_at
pattern_gives us bits slash star = by_length (body_length us) refl
  where
    by_length : (o : Option ℕ) → body_length us ≡ o → Gives IsLiteralAt (pattern_by us o)
    by_length None h = tt
    by_length (Some n) h =
        let body = kept (take n us) in
        let flags = flags_at (drop (n + 1) us) in
        step IsLiteralAt (literal_of body flags) _ (literal_gives body flags (body_is us n bits slash star h) (run_passes is_word_part (drop (n + 1) us)) (literal_of body flags) refl) (λ l is. is)

-- ---- its spelling

ascii_same : (us : List ℕ) → list_all is_plain us ≡ true → flat_map ascii_unit us ≡ us
ascii_same [] h = refl
ascii_same (u ∷ us) h =
    let one : is_plain u ≡ true = both_first _ _ h in
    let others : flat_map ascii_unit us ≡ us = ascii_same us (both_second _ _ h) in
    rw (flat_map-cons ascii_unit u us, one, others) refl

flags_plain : (us : List ℕ) → list_all is_word_part us ≡ true → list_all is_plain us ≡ true
flags_plain us h = all_weaker is_word_part is_plain (λ u part. shown_printed u (part_shown u part)) us h

-- what is known of a literal that can be spelt
record IsSpelt (l : Literal) : Type 0 where
  begins : first_passes begins_body l.body ≡ true
  plain : list_all is_plain l.body ≡ true
  ends : body_length (l.body ++ 47 ∷ []) ≡ Some (length l.body)
  parts : list_all is_word_part l.flags ≡ true
  pattern : literal_of l.body l.flags ≡ Ok l

comes_is : (n : ℕ) (o : Option ℕ) → comes_to n o ≡ true → o ≡ Some n
comes_is n None h = cc
comes_is n (Some m) h = let same : m ≡ n = grind (arith, nat_tests) in ap (λ (k : ℕ). Some k) same

literal_read : (l : Literal) (r : Result Literal ReadKind) → literal_of l.body l.flags ≡ r → is_ok r ≡ true → literal_of l.body l.flags ≡ Ok l
literal_read l (Ok k) h is = let same : l ≡ k = literal_is l.body l.flags k h in h ∙ ap (λ (x : Literal). Ok x) (sym same)
literal_read l (Err e) h is = cc

spelt : (l : Literal) → is_pattern_literal l ≡ true → IsSpelt l
spelt l h =
    let first = first_passes begins_body l.body in
    let plain = list_all is_plain l.body in
    let parts = list_all is_word_part l.flags in
    let units : (is_body l.body && parts) ≡ true = both_first (is_body l.body && parts) _ h in
    let body : is_body l.body ≡ true = both_first (is_body l.body) parts units in
    let front : (first && plain) ≡ true = both_first (first && plain) _ body in
    record {
      begins = both_first first plain front;
      plain = both_second first plain front;
      ends = comes_is (length l.body) (body_length (l.body ++ 47 ∷ [])) (both_second (first && plain) _ body);
      parts = both_second (is_body l.body) parts units;
      pattern = literal_read l (literal_of l.body l.flags) refl (both_second (is_body l.body && parts) _ h);
    }

spelling_is : (l : Literal) → IsSpelt l → pattern_spelling l ≡ 47 ∷ (l.body ++ 47 ∷ l.flags)
spelling_is l s =
    let body : flat_map ascii_unit l.body ≡ l.body = ascii_same l.body s.plain in
    let flags : flat_map ascii_unit l.flags ≡ l.flags = ascii_same l.flags (flags_plain l.flags s.parts) in
    rw (body, flags) refl

pub pattern_printed : (l : Literal) → is_pattern_literal l ≡ true → list_all is_printed (pattern_spelling l) ≡ true
pattern_printed l h =
    let s = spelt l h in
    let body : list_all is_printed l.body ≡ true = s.plain in
    let flags : list_all is_printed l.flags ≡ true = flags_plain l.flags s.parts in
    subst (λ us. list_all is_printed us ≡ true) (sym (spelling_is l s)) (rw (list_all-append is_printed l.body (47 ∷ l.flags), body, flags) refl)

-- ---- it is read back

no_slash_first : (us : List ℕ) → first_passes begins_body us ≡ true → body_length (us ++ 47 ∷ []) ≡ Some (length us) → (more : List ℕ) → begins_with 47 (us ++ more) ≡ false
no_slash_first [] begins h more = cc
no_slash_first (u ∷ us) begins h more = by_found (found false false u (suc (length us)) (us ++ 47 ∷ []) h)
  where
    by_found : Found false false u (us ++ 47 ∷ []) (suc (length us)) → nat_eq u 47 ≡ false
    by_found (inl f) = cc (f.1)
    by_found (inr f) = first_of_both (nat_eq u 47) f.1

no_star_first : (us : List ℕ) → first_passes begins_body us ≡ true → (more : List ℕ) → begins_with 42 (us ++ more) ≡ false
no_star_first [] begins more = cc
no_star_first (u ∷ us) begins more = by_star (nat_eq u 42) refl
  where
    by_star : (b : Bool) → nat_eq u 42 ≡ b → b ≡ false
    by_star true e = let is : begins_body u ≡ false = rw e refl in let f : true ≡ false = sym begins ∙ is in cc
    by_star false e = refl

-- at a slash that neither divides nor begins a comment
piece_of_pattern : (us : List ℕ) → begins_with 47 us ≡ false → begins_with 42 us ≡ false → piece_at false (47 ∷ us) ≡ pattern_piece us
unfolding piece_at
piece_of_pattern us slash star = rw (slash, star) refl

drop_slash : (us more : List ℕ) → drop (suc (length us)) (us ++ 47 ∷ more) ≡ more
drop_slash [] more = refl
drop_slash (u ∷ us) more = drop_slash us more

flags_read : (flags : List ℕ) (gap : ℕ) (rest : List ℕ) → list_all is_word_part flags ≡ true → is_word_part gap ≡ false → flags_at (flags ++ gap ∷ rest) ≡ flags
flags_read flags gap rest parts stop = rw (run_length is_word_part flags gap rest parts stop) (take-append_seam flags (gap ∷ rest))

at_literal : (l : Literal) (gap : ℕ) (rest : List ℕ) → IsSpelt l → is_word_part gap ≡ false → pattern_at (l.body ++ 47 ∷ (l.flags ++ gap ∷ rest)) ≡ Ok (l, length l.body + 1 + length l.flags)
unfolding pattern_at
at_literal l gap rest s stop =
    let more = l.flags ++ gap ∷ rest in
    let us = l.body ++ 47 ∷ more in
    let count : body_length us ≡ Some (length l.body) = body_ends false false l.body more s.ends in
    let front : take (length l.body) us ≡ l.body = take-append_seam l.body (47 ∷ more) in
    let one : length l.body + 1 ≡ suc (length l.body) = omega arith in
    let behind : drop (length l.body + 1) us ≡ more = rw one (drop_slash l.body more) in
    let body : kept l.body ≡ l.body = kept_same false false l.body s.plain s.ends in
    rw (count, front, behind, flags_read l.flags gap rest s.parts stop, body, s.pattern) refl

piece_counts : (l : Literal) (us : List ℕ) → pattern_at us ≡ Ok (l, length l.body + 1 + length l.flags) → pattern_piece us ≡ Ok (Some (token.Pattern l), length (47 ∷ (l.body ++ 47 ∷ l.flags)))
piece_counts l us h =
    let count : length l.body + 1 + length l.flags + 1 ≡ length (47 ∷ (l.body ++ 47 ∷ l.flags)) = omega (arith, length-append l.body (47 ∷ l.flags)) in
    rw h (ap (λ (n : ℕ). Ok (Some (token.Pattern l), n)) count)

pub pattern_reads : (dividing : Bool) (l : Literal) (gap : ℕ) (rest : List ℕ) → is_pattern_literal l ≡ true → dividing ≡ false → is_word_part gap ≡ false
    → piece_at dividing (pattern_spelling l ++ gap ∷ rest) ≡ Ok (Some (token.Pattern l), length (pattern_spelling l))
pattern_reads dividing l gap rest h divides stop =
    let s = spelt l h in
    let us = l.body ++ 47 ∷ (l.flags ++ gap ∷ rest) in
    let slash : begins_with 47 us ≡ false = no_slash_first l.body s.begins s.ends (47 ∷ (l.flags ++ gap ∷ rest)) in
    let star : begins_with 42 us ≡ false = no_star_first l.body s.begins (47 ∷ (l.flags ++ gap ∷ rest)) in
    subst (λ vs. piece_at dividing (vs ++ gap ∷ rest) ≡ Ok (Some (token.Pattern l), length vs)) (sym (spelling_is l s))
    (rw (divides, append_assoc l.body (47 ∷ l.flags) (gap ∷ rest)) (piece_of_pattern us slash star ∙ piece_counts l us (at_literal l gap rest s stop)))
