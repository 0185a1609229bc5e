-- No piece ends between a CR and its LF, so behind a piece the place goes on as it would without the cut.
use Rattle.std.proofs.Common.{◌≡◌, ℕ, zero, suc, ◌+◌, ◌<◌, pos, List, [], ◌∷◌, length, take, drop, Bool, true, false, ◌&&◌, ◌||◌, not, Option, Some, None, Result, Ok, Err, refl, sym, ap, subst, ◌∙◌, arith, if◌then◌else◌}
use Rattle.std.specs.Prelude.{find, nat_eq, nat_lt, option_to_list}
use Rattle.std.specs.List.{prefix_len, starts_with, list_all, list_any}
use Rattle.std.specs.Option.{option_map}
use Rattle.std.proofs.Math.Bool.{and-false}
use Rattle.std.proofs.lemmas.Bool.{and_parts, eqb-true, not-true, or_parts}
use Rattle.std.proofs.lemmas.List.Folds.{length-prefix_len}
use Rattle.utf16_text.specs.Letters.{is_break_unit, is_space_unit}
use Rattle.utf16_text.specs.Digits.{is_digit, is_hexadecimal, value_of}
use Rattle.js_pattern_reader.specs.Literal.{Literal}
use Rattle.js_tree.specs.declared.place.Place.{Place}
use Rattle.js_tree.specs.declared.sign.Sign.{Sign as SignName}
use Rattle.js_tree.specs.declared.token.TokenKind.TheVariants.{Sign, Number, Text, Pattern}
use Rattle.js_tree.specs.declared.refusal.ReadKind.{ReadKind}
use Rattle.js_tree.specs.declared.refusal.ReadKind.TheVariants.{BadToken, FractionLiteral, Unsupported}
use Rattle.js_grammar.specs.Reading.{◌>>=◌}
use Rattle.js_grammar.specs.Units.{begins_with, first_passes, is_word_part, is_word_start, place_after}
use Rattle.js_grammar.specs.Literals.{character_at, decimal_at, hexadecimal_at, in_front, is_fraction_mark, is_hexadecimal_literal, literal, number_at, text_at, text_from}
use Rattle.js_grammar.specs.Patterns.{body_length, body_length_from, class_behind, ends_body, escapes, flags_at, kept, literal_of, pattern_at}
use Rattle.js_grammar.specs.Signs.{sign_spelling, signs}
use Rattle.js_grammar.specs.Tokens.{comment_length, comment_piece, is_inline, is_quote, pattern_piece, piece_at, sign_piece, slash_piece, text_piece, word_piece}
use Rattle.js_lexer.proofs.Runs.{failing_unit, other_unit, run_ends, run_more}

-- whether CR LF (13, 10) stands across the place behind so many units
abbrev pub splits : ℕ → List ℕ → Bool
splits zero us = false
splits (suc n) [] = false
splits (suc zero) (u ∷ us) = nat_eq u 13 && begins_with 10 us
splits (suc (suc n)) (u ∷ us) = splits (suc n) us

-- ---- places

-- behind units that don't end between CR and LF
pub goes_behind : (k : ℕ) (us : List ℕ) (p : Place) → splits k us ≡ false → place_after p us ≡ place_after (place_after p (take k us)) (drop k us)
goes_behind zero us p whole = refl
goes_behind (suc n) [] p whole = refl
goes_behind (suc zero) (u ∷ us) p whole = by_break (is_break_unit u) refl
  where
    by_break : (b : Bool) → is_break_unit u ≡ b → place_after p (u ∷ us) ≡ place_after (place_after p (u ∷ [])) us
    by_break true is = rw (whole, and-false (nat_eq u 13), is) refl
    by_break false is = rw (whole, and-false (nat_eq u 13), is) refl
goes_behind (suc (suc n)) (u ∷ []) p whole = refl
goes_behind (suc (suc n)) (u ∷ v ∷ vs) p whole = by_units (nat_eq u 13 && nat_eq v 10) refl (is_break_unit u) refl (λ q. goes_behind (suc n) (v ∷ vs) q whole)
  where
    by_units : (b : Bool) → (nat_eq u 13 && nat_eq v 10) ≡ b → (c : Bool) → is_break_unit u ≡ c
        → ((q : Place) → place_after q (v ∷ vs) ≡ place_after (place_after q (v ∷ take n vs)) (drop n vs))
        → place_after p (u ∷ v ∷ vs) ≡ place_after (place_after p (u ∷ v ∷ take n vs)) (drop n vs)
    by_units true both c is on = rw both (on p)
    by_units false both true is on = rw (both, is) (on (record { line = p.line + 1; column = 1 }))
    by_units false both false is on = rw (both, is) (on (record { line = p.line; column = p.column + 1 }))

-- ---- runs of units

-- a run that takes each LF
pub run_takes_lf : (test : ℕ → Bool) → test 10 ≡ true → (u : ℕ) (us : List ℕ) → splits (suc (prefix_len test us)) (u ∷ us) ≡ false
run_takes_lf test lf u [] = and-false (nat_eq u 13)
run_takes_lf test lf u (v ∷ vs) = by_test (test v) refl (run_takes_lf test lf v vs)
  where
    by_test : (b : Bool) → test v ≡ b → splits (suc (prefix_len test vs)) (v ∷ vs) ≡ false → splits (suc (prefix_len test (v ∷ vs))) (u ∷ v ∷ vs) ≡ false
    by_test true is later = ap (λ n. splits (suc n) (u ∷ v ∷ vs)) (run_more test v vs is) ∙ later
    by_test false is later =
        ap (λ n. splits (suc n) (u ∷ v ∷ vs)) (run_ends test v vs is)
        ∙ ap (λ b. nat_eq u 13 && b) (failing_unit test v 10 lf is)
        ∙ and-false (nat_eq u 13)

-- a run that takes no CR, behind another unit
pub run_takes_no_cr : (test : ℕ → Bool) → test 13 ≡ false → (u : ℕ) (us : List ℕ) → nat_eq u 13 ≡ false → splits (suc (prefix_len test us)) (u ∷ us) ≡ false
run_takes_no_cr test cr u [] other = rw other refl
run_takes_no_cr test cr u (v ∷ vs) other = by_test (test v) refl (run_takes_no_cr test cr v vs)
  where
    by_test : (b : Bool) → test v ≡ b → (nat_eq v 13 ≡ false → splits (suc (prefix_len test vs)) (v ∷ vs) ≡ false) → splits (suc (prefix_len test (v ∷ vs))) (u ∷ v ∷ vs) ≡ false
    by_test true is later = ap (λ n. splits (suc n) (u ∷ v ∷ vs)) (run_more test v vs is) ∙ later (other_unit test v 13 cr is)
    by_test false is later = ap (λ n. splits (suc n) (u ∷ v ∷ vs)) (run_ends test v vs is) ∙ rw other refl

-- ---- units behind others

pub later : (n : ℕ) (u : ℕ) (us : List ℕ) → 0 < n → splits (suc n) (u ∷ us) ≡ splits n us
later zero u us some = absurd (omega arith)
later (suc n) u us some = refl

pub behind : (j n : ℕ) (us : List ℕ) → 0 < n → splits (j + n) us ≡ splits n (drop j us)
behind zero n us some = ap (λ m. splits m us) (let e : 0 + n ≡ n = omega arith in e)
behind (suc j) n [] some = nothing (suc j + n) ∙ sym (nothing n)
  where
    nothing : (m : ℕ) → splits m [] ≡ false
    nothing zero = refl
    nothing (suc m) = refl
behind (suc j) n (u ∷ us) some =
    let more : suc j + n ≡ suc (j + n) = omega arith in
    ap (λ m. splits m (u ∷ us)) more ∙ later (j + n) u us (omega (arith, some)) ∙ behind j n us some

-- ---- what a piece can be: it has this many units, and no CR LF stands across its end

abbrev Ends : {A : Type 0} → Result (A × ℕ) ReadKind → List ℕ → Type 0
Ends {A} read us = (x : A × ℕ) → read ≡ Ok x → splits x.1 us ≡ false

refuses : {A : Type 0} (kind : ReadKind) (us : List ℕ) → Ends {A = A} (Err kind) us
refuses kind us x e = cc

gives : {A : Type 0} (a : A) (n k : ℕ) (us : List ℕ) → n ≡ k → splits k us ≡ false → Ends (Ok (a, n)) us
gives a n k us same whole x e =
    let count : n ≡ x.1 = cc in
    ap (λ m. splits m us) (sym count ∙ same) ∙ whole

chosen : {A : Type 0} (b : Bool) (r s : Result (A × ℕ) ReadKind) (us : List ℕ) → (b ≡ true → Ends r us) → (b ≡ false → Ends s us) → Ends (if b then r else s) us
chosen true r s us f g = f refl
chosen false r s us f g = g refl

with_kind : {A B : Type 0} (f : A → B) (r : Result (A × ℕ) ReadKind) (us : List ℕ) → Ends r us → Ends (r >>= (λ x. Ok (f x.0, x.1))) us
with_kind f (Ok a) us ends x e =
    let count : a.1 ≡ x.1 = cc in
    ap (λ m. splits m us) (sym count) ∙ ends a refl
with_kind f (Err kind) us ends x e = cc

-- ---- numbers

literal_ends : (value n : ℕ) (rest us : List ℕ) → splits n us ≡ false → Ends (literal value n rest) us
literal_ends value n rest us whole =
    chosen (first_passes is_word_start rest) _ _ us (λ w. refuses BadToken us) (λ w.
    chosen (nat_lt 9007199254740991 value) _ _ us (λ l. refuses BadToken us) (λ l. gives (pos value) n n us refl whole))

decimal_ends : (u : ℕ) (us : List ℕ) → is_digit u ≡ true → Ends (decimal_at (u ∷ us)) (u ∷ us)
decimal_ends u us digit =
    let all = u ∷ us in
    let n = prefix_len is_digit all in
    let whole : splits n all ≡ false =
    ap (λ m. splits m all) (run_more is_digit u us digit) ∙ run_takes_no_cr is_digit refl u us (other_unit is_digit u 13 refl digit) in
    chosen (begins_with 48 all && nat_lt 1 n) _ _ all (λ z. refuses Unsupported all) (λ z.
    chosen (first_passes is_fraction_mark (drop n all)) _ _ all (λ f. refuses FractionLiteral all) (λ f.
    literal_ends (value_of 10 (take n all)) n (drop n all) all whole))

abbrev is_x : ℕ → Bool
is_x u = nat_eq u 120 || nat_eq u 88

hexadecimal_ends : (u v : ℕ) (vs : List ℕ) → is_x v ≡ true → Ends (hexadecimal_at vs) (u ∷ v ∷ vs)
hexadecimal_ends u v vs x =
    let n = prefix_len is_hexadecimal vs in
    let two : n + 2 ≡ suc (suc n) = omega arith in
    let whole : splits (n + 2) (u ∷ v ∷ vs) ≡ false =
    ap (λ m. splits m (u ∷ v ∷ vs)) two ∙ run_takes_no_cr is_hexadecimal refl v vs (other_unit is_x v 13 refl x) in
    chosen (nat_eq n 0) _ _ (u ∷ v ∷ vs) (λ none. refuses BadToken (u ∷ v ∷ vs)) (λ some. literal_ends (value_of 16 (take n vs)) (n + 2) (drop n vs) (u ∷ v ∷ vs) whole)

number_ends : (u : ℕ) (us : List ℕ) → is_digit u ≡ true → Ends (number_at (u ∷ us)) (u ∷ us)
number_ends u [] digit = chosen (is_hexadecimal_literal (u ∷ [])) _ _ (u ∷ []) (λ x. absurd (no_x x)) (λ x. decimal_ends u [] digit)
  where
    no_x : is_hexadecimal_literal (u ∷ []) ≡ true → ⊥
    no_x x = let f : (begins_with 48 (u ∷ []) && false) ≡ false = and-false (begins_with 48 (u ∷ [])) in cc
number_ends u (v ∷ vs) digit =
    chosen (is_hexadecimal_literal (u ∷ v ∷ vs)) _ _ (u ∷ v ∷ vs) (λ x. hexadecimal_ends u v vs (and_parts _ _ x).1) (λ x. decimal_ends u (v ∷ vs) digit)

-- ---- comments

comment_ends : (us : List ℕ) (n : ℕ) → comment_length us ≡ Some n → (0 < n) × (splits n us ≡ false)
comment_ends [] n e = cc
comment_ends (u ∷ us) n e = by_test (nat_eq u 42 && begins_with 47 us) refl (comment_length us) refl (comment_ends us)
  where
    closed : (vs : List ℕ) → begins_with 47 vs ≡ true → splits 2 (u ∷ vs) ≡ false
    closed [] b = cc
    closed (v ∷ vs) b = rw (other_unit (λ w. nat_eq w 47) v 13 refl b) refl

    by_test : (b : Bool) → (nat_eq u 42 && begins_with 47 us) ≡ b → (o : Option ℕ) → comment_length us ≡ o
        → ((m : ℕ) → comment_length us ≡ Some m → (0 < m) × (splits m us ≡ false)) → (0 < n) × (splits n (u ∷ us) ≡ false)
    by_test true is o is_o on =
        let two : 2 ≡ n = let r : Some 2 ≡ Some n = sym (rw is refl) ∙ e in cc in
        (omega arith, ap (λ m. splits m (u ∷ us)) (sym two) ∙ closed us (and_parts _ _ is).1)
    by_test false is None is_o on = let r : None ≡ Some n = sym (rw (is, is_o) refl) ∙ e in cc
    by_test false is (Some m) is_o on =
        let more : m + 1 ≡ n = let r : Some (m + 1) ≡ Some n = sym (rw (is, is_o) refl) ∙ e in cc in
        let one : n ≡ suc m = omega arith in
        let ih = on m is_o in
        (omega arith, ap (λ k. splits k (u ∷ us)) one ∙ later m u us ih.0 ∙ ih.1)

commented : (u v : ℕ) (vs : List ℕ) (o : Option ℕ) → comment_length vs ≡ o → Ends (comment_piece o) (u ∷ v ∷ vs)
commented u v vs None is = refuses BadToken (u ∷ v ∷ vs)
commented u v vs (Some n) is =
    let ih = comment_ends vs n is in
    let two : n + 2 ≡ suc (suc n) = omega arith in
    gives None (n + 2) (suc (suc n)) (u ∷ v ∷ vs) two (later (suc n) u (v ∷ vs) (omega arith) ∙ later n v vs ih.0 ∙ ih.1)

-- ---- signs

abbrev has_cr : List ℕ → Bool
has_cr us = list_any (λ u. nat_eq u 13) us

spelling_ends : (us spelling : List ℕ) → starts_with nat_eq us spelling ≡ true → has_cr spelling ≡ false → splits (length spelling) us ≡ false
spelling_ends us [] here none = refl
spelling_ends [] (x ∷ xs) here none = refl
spelling_ends (u ∷ us) (x ∷ xs) here none = by_rest xs refl (spelling_ends us xs)
  where
    other : nat_eq u 13 ≡ false
    other = ap (λ w. nat_eq w 13) (sym (eqb-true x u (and_parts _ _ here).0)) ∙ (or_parts _ _ none).0

    by_rest : (ys : List ℕ) → xs ≡ ys → (starts_with nat_eq us xs ≡ true → has_cr xs ≡ false → splits (length xs) us ≡ false) → splits (suc (length xs)) (u ∷ us) ≡ false
    by_rest [] is on = rw (is, other) refl
    by_rest (y ∷ ys) is on = later (length xs) u us (rw is (omega arith)) ∙ on (and_parts _ _ here).1 (or_parts _ _ none).1

-- what is found passes the test, and what all pass
found : {A : Type 0} (test all : A → Bool) (xs : List A) (x : A) → find test xs ≡ Some x → list_all all xs ≡ true → (test x ≡ true) × (all x ≡ true)
found test all [] x e pass = cc
found test all (y ∷ ys) x e pass = by_test (test y) refl (found test all ys x)
  where
    by_test : (b : Bool) → test y ≡ b → (find test ys ≡ Some x → list_all all ys ≡ true → (test x ≡ true) × (all x ≡ true)) → (test x ≡ true) × (all x ≡ true)
    by_test true is on =
        let same : y ≡ x = let r : Some y ≡ Some x = sym (rw is refl) ∙ e in cc in
        (ap test (sym same) ∙ is, ap all (sym same) ∙ (and_parts _ _ pass).0)
    by_test false is on = on (sym (rw is refl) ∙ e) (and_parts _ _ pass).1

no_cr_in_signs : list_all (λ s. not (has_cr (sign_spelling s))) signs ≡ true
no_cr_in_signs = refl

sign_ends : (us : List ℕ) (o : Option SignName) → find (λ s. starts_with nat_eq us (sign_spelling s)) signs ≡ o → Ends (sign_piece (option_map (λ s. (s, length (sign_spelling s))) o)) us
sign_ends us None is = refuses BadToken us
sign_ends us (Some s) is =
    let both = found (λ s. starts_with nat_eq us (sign_spelling s)) (λ s. not (has_cr (sign_spelling s))) signs s is no_cr_in_signs in
    gives (Some (Sign s)) (length (sign_spelling s)) (length (sign_spelling s)) us refl (spelling_ends us (sign_spelling s) both.0 (not-true _ both.1))

-- ---- texts

text_ends : (n quote : ℕ) → nat_eq quote 13 ≡ false → (us : List ℕ) (x : List ℕ × ℕ) → text_from n quote us ≡ Ok x → (0 < x.1) × (splits x.1 us ≡ false)
unfolding text_from
text_ends zero quote other us x e = cc
text_ends (suc n) quote other [] x e = cc
text_ends (suc n) quote other (u ∷ us) x e = by_quote (nat_eq u quote) refl (is_break_unit u) refl (character_at u us) refl (text_ends n quote other)
  where
    Goal : Type 0
    Goal = (0 < x.1) × (splits x.1 (u ∷ us) ≡ false)

    by_rest : (c : Option ℕ × ℕ) (r : Result (List ℕ × ℕ) ReadKind) → text_from n quote (drop c.1 (u ∷ us)) ≡ r → (r >>= in_front (option_to_list c.0) c.1) ≡ Ok x
        → ((vs : List ℕ) (y : List ℕ × ℕ) → text_from n quote vs ≡ Ok y → (0 < y.1) × (splits y.1 vs ≡ false)) → Goal
    by_rest c (Err kind) is h on = cc
    by_rest c (Ok y) is h on =
        let count : c.1 + y.1 ≡ x.1 = cc in
        let ih = on (drop c.1 (u ∷ us)) y is in
        (omega (arith, ih.0, count), ap (λ m. splits m (u ∷ us)) (sym count) ∙ behind c.1 y.1 (u ∷ us) ih.0 ∙ ih.1)

    by_quote : (q : Bool) → nat_eq u quote ≡ q → (b : Bool) → is_break_unit u ≡ b → (c : Result (Option ℕ × ℕ) ReadKind) → character_at u us ≡ c
        → ((vs : List ℕ) (y : List ℕ × ℕ) → text_from n quote vs ≡ Ok y → (0 < y.1) × (splits y.1 vs ≡ false)) → Goal
    by_quote true is b broken c character on =
        let one : 1 ≡ x.1 = let r : Ok ([], 1) ≡ Ok x = sym (rw is refl) ∙ e in cc in
        (omega arith, ap (λ m. splits m (u ∷ us)) (sym one) ∙ rw (eqb-true u quote is, other) refl)
    by_quote false is true broken c character on = let r : Err BadToken ≡ Ok x = sym (rw (is, broken) refl) ∙ e in cc
    by_quote false is false broken (Err kind) character on = let r : Err kind ≡ Ok x = sym (rw (is, broken, character) refl) ∙ e in cc
    by_quote false is false broken (Ok c) character on = by_rest c (text_from n quote (drop c.1 (u ∷ us))) refl (sym (rw (is, broken, character) refl) ∙ e) on

quoted : (u : ℕ) (us : List ℕ) → is_quote u ≡ true → Ends (text_piece u us) (u ∷ us)
quoted u us quote = by_text (text_at u us) refl
  where
    by_text : (r : Result (List ℕ × ℕ) ReadKind) → text_at u us ≡ r → Ends (r >>= (λ x. Ok (Some (Text x.0), x.1 + 1))) (u ∷ us)
    by_text (Err kind) is = refuses kind (u ∷ us)
    by_text (Ok x) is =
        let ih = text_ends (suc (length us)) u (other_unit is_quote u 13 refl quote) us x is in
        let one : x.1 + 1 ≡ suc x.1 = omega arith in
        gives (Some (Text x.0)) (x.1 + 1) (suc x.1) (u ∷ us) one (later x.1 u us ih.0 ∙ ih.1)

-- ---- pattern literals

-- a body ends before a slash
slash_behind : (escaped within : Bool) (us : List ℕ) (n : ℕ) → body_length_from escaped within us ≡ Some n → drop n us ≡ 47 ∷ drop (suc n) us
slash_behind escaped within [] n e = cc
slash_behind escaped within (u ∷ us) n e =
    by_unit (is_break_unit u) refl (ends_body escaped within u) refl (body_length_from next_escaped next_within us) refl (slash_behind next_escaped next_within us)
  where
    next_escaped : Bool
    next_escaped = escapes escaped u

    next_within : Bool
    next_within = class_behind escaped within u

    Goal : ℕ → Type 0
    Goal m = drop m (u ∷ us) ≡ 47 ∷ drop m us

    by_unit : (b : Bool) → is_break_unit u ≡ b → (c : Bool) → ends_body escaped within u ≡ c → (o : Option ℕ) → body_length_from next_escaped next_within us ≡ o
        → ((m : ℕ) → body_length_from next_escaped next_within us ≡ Some m → drop m us ≡ 47 ∷ drop (suc m) us) → Goal n
    by_unit true broken c ends o is on = let r : None ≡ Some n = sym (rw broken refl) ∙ e in cc
    by_unit false broken true ends o is on =
        let none : 0 ≡ n = let r : Some 0 ≡ Some n = sym (rw (broken, ends) refl) ∙ e in cc in
        subst Goal none (ap (λ w. w ∷ us) (eqb-true u 47 (and_parts _ _ ends).0))
    by_unit false broken false ends None is on = let r : None ≡ Some n = sym (rw (broken, ends, is) refl) ∙ e in cc
    by_unit false broken false ends (Some m) is on =
        let more : m + 1 ≡ n = let r : Some (m + 1) ≡ Some n = sym (rw (broken, ends, is) refl) ∙ e in cc in
        let one : suc m ≡ n = omega arith in
        subst Goal one (on m is)

pattern_ends : (us : List ℕ) (x : Literal × ℕ) → pattern_at us ≡ Ok x → (0 < x.1) × (splits x.1 us ≡ false)
unfolding pattern_at
pattern_ends us x e = by_length (body_length us) refl
  where
    by_literal : (n : ℕ) → body_length us ≡ Some n → (r : Result Literal ReadKind) → literal_of (kept (take n us)) (flags_at (drop (n + 1) us)) ≡ r → (0 < x.1) × (splits x.1 us ≡ false)
    by_literal n is (Err kind) read = let r : Err kind ≡ Ok x = sym (rw (is, read) refl) ∙ e in cc
    by_literal n is (Ok l) read =
        let flags = drop (n + 1) us in
        let m = prefix_len is_word_part flags in
        let count : n + 1 + length (flags_at flags) ≡ x.1 = let r : Ok (l, n + 1 + length (flags_at flags)) ≡ Ok x = sym (rw (is, read) refl) ∙ e in cc in
        let flags_length : length (flags_at flags) ≡ m = length-prefix_len is_word_part flags in
        let whole : n + suc m ≡ x.1 = omega (arith, count, flags_length) in
        let slash : drop n us ≡ 47 ∷ drop (suc n) us = slash_behind false false us n is in
        let one : suc n ≡ n + 1 = omega arith in
        let there : drop n us ≡ 47 ∷ flags = slash ∙ ap (λ k. 47 ∷ drop k us) one in
        (omega (arith, whole), ap (λ k. splits k us) (sym whole) ∙ behind n (suc m) us (omega arith) ∙ ap (λ vs. splits (suc m) vs) there ∙ run_takes_no_cr is_word_part refl 47 flags refl)

    by_length : (o : Option ℕ) → body_length us ≡ o → (0 < x.1) × (splits x.1 us ≡ false)
    by_length None is = let r : Err BadToken ≡ Ok x = sym (rw is refl) ∙ e in cc
    by_length (Some n) is = by_literal n is (literal_of (kept (take n us)) (flags_at (drop (n + 1) us))) refl

slashed : (u : ℕ) (us : List ℕ) → Ends (pattern_piece us) (u ∷ us)
slashed u us = by_pattern (pattern_at us) refl
  where
    by_pattern : (r : Result (Literal × ℕ) ReadKind) → pattern_at us ≡ r → Ends (r >>= (λ x. Ok (Some (Pattern x.0), x.1 + 1))) (u ∷ us)
    by_pattern (Err kind) is = refuses kind (u ∷ us)
    by_pattern (Ok x) is =
        let ih = pattern_ends us x is in
        let one : x.1 + 1 ≡ suc x.1 = omega arith in
        gives (Some (Pattern x.0)) (x.1 + 1) (suc x.1) (u ∷ us) one (later x.1 u us ih.0 ∙ ih.1)

-- ---- any piece

slash_ends : (dividing : Bool) (u : ℕ) (us : List ℕ) → nat_eq u 47 ≡ true → Ends (slash_piece dividing (u ∷ us)) (u ∷ us)
slash_ends dividing u us slash =
    let one : prefix_len is_inline us + 1 ≡ suc (prefix_len is_inline us) = omega arith in
    chosen (begins_with 47 us) _ _ (u ∷ us)
    (λ line. gives None (prefix_len is_inline us + 1) (suc (prefix_len is_inline us)) (u ∷ us) one (run_takes_no_cr is_inline refl u us (other_unit (λ w. nat_eq w 47) u 13 refl slash)))
    (λ line. chosen (begins_with 42 us) _ _ (u ∷ us) (begun us) (λ block.
    chosen dividing _ _ (u ∷ us) (λ d. sign_ends (u ∷ us) _ refl) (λ d. slashed u us)))
  where
    begun : (vs : List ℕ) → begins_with 42 vs ≡ true → Ends (comment_piece (comment_length (drop 1 vs))) (u ∷ vs)
    begun [] block = cc
    begun (v ∷ vs) block = commented u v vs (comment_length vs) refl

word_ends : (u : ℕ) (us : List ℕ) → is_word_start u ≡ true → Ends (word_piece (u ∷ us)) (u ∷ us)
word_ends u us start =
    let part : is_word_part u ≡ true = rw start refl in
    gives _ (prefix_len is_word_part (u ∷ us)) (suc (prefix_len is_word_part us)) (u ∷ us) (run_more is_word_part u us part)
    (run_takes_no_cr is_word_part refl u us (other_unit is_word_part u 13 refl part))

pub piece_ends : (dividing : Bool) (us : List ℕ) → Ends (piece_at dividing us) us
unfolding piece_at
piece_ends dividing [] = gives None 0 0 [] refl refl
piece_ends dividing (u ∷ us) =
    let all = u ∷ us in
    let one : prefix_len is_space_unit us + 1 ≡ suc (prefix_len is_space_unit us) = omega arith in
    chosen (is_space_unit u) _ _ all (λ s. gives None (prefix_len is_space_unit us + 1) (suc (prefix_len is_space_unit us)) all one (run_takes_lf is_space_unit refl u us)) (λ s.
    chosen (is_word_start u) _ _ all (word_ends u us) (λ w.
    chosen (is_digit u) _ _ all (λ digit. with_kind (λ n. Some (Number n)) (number_at all) all (number_ends u us digit)) (λ digit.
    chosen (nat_eq u 46 && first_passes is_digit us) _ _ all (λ f. refuses FractionLiteral all) (λ f.
    chosen (is_quote u) _ _ all (quoted u us) (λ q.
    chosen (nat_eq u 47) _ _ all (slash_ends dividing u us) (λ k. sign_ends all _ refl))))))
