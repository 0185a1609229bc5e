-- Each token that is read can be spelt.
use Rattle.std.proofs.Common.{◌≡◌, ℕ, zero, suc, ◌+◌, List, [], ◌∷◌, ◌++◌, length, take, drop, Option, Some, None, Result, Ok, Err, Bool, true, false, ◌&&◌, refl, subst, arith}
use Rattle.std.specs.Prelude.{nat_eq}
use Rattle.std.specs.List.{prefix_len, list_all}
use Rattle.std.proofs.lemmas.List.Sums.{AllPass-from_list_all, list_all-from_AllPass}
use Rattle.utf16_text.specs.Letters.{is_space_unit}
use Rattle.js_tree.specs.declared.place.Place.{Place}
use Rattle.js_tree.specs.declared.token.Token.{Token}
use Rattle.js_tree.specs.declared.token.TokenKind.{TokenKind}
use Rattle.js_tree.specs.declared.sign.Sign.{Sign}
use Rattle.js_tree.specs.declared.refusal.ReadKind.{ReadKind}
use Rattle.utf16_text.specs.Digits.{is_digit}
use Rattle.js_grammar.specs.Units.{first_passes, begins_with, is_word_start, is_word_part, place_after}
use Rattle.js_grammar.specs.Signs.{sign_at}
use Rattle.js_grammar.specs.Literals.{number_at, text_at}
use Rattle.js_grammar.specs.Patterns.{pattern_at}
use Rattle.js_grammar.specs.Tokens.{Piece, divides, comment_length, comment_piece, sign_piece, slash_piece, word_piece, number_piece, text_piece, is_quote, piece_at, at_place, piece_tokens, line_ended, pattern_piece, tokens_from, tokens_of}
use Rattle.utf16_text.specs.Units.{is_unit}
use Rattle.js_law_spelling.specs.Spellable.{is_spellable}
use Rattle.js_law_spelling.specs.Laws.{TokensAreSpellable}
use Rattle.js_law_spelling.proofs.Units.{both, both_second, run_passes}
use Rattle.js_law_spelling.proofs.Patterns.{pattern_gives}
use Rattle.js_law_spelling.proofs.Read.{Gives, step, chosen, number_gives, text_gives, drop_passes}

-- ---- pieces

abbrev pub is_spellable_or_none : Option TokenKind → Bool
is_spellable_or_none None = true
is_spellable_or_none (Some k) = is_spellable k

abbrev pub IsSpellablePiece : Piece → Type 0
IsSpellablePiece p = is_spellable_or_none p.0 ≡ true

start_is_part : (u : ℕ) → is_word_start u ≡ true → is_word_part u ≡ true
start_is_part u start = rw start refl

begins_run : (u : ℕ) (us : List ℕ) → is_word_start u ≡ true → first_passes is_word_start (take (prefix_len is_word_part (u ∷ us)) (u ∷ us)) ≡ true
begins_run u us start =
    let one : 1 + prefix_len is_word_part us ≡ suc (prefix_len is_word_part us) = omega arith in
    rw (start, one) start

word_gives : (u : ℕ) (us : List ℕ) → is_word_start u ≡ true → Gives IsSpellablePiece (word_piece (u ∷ us))
word_gives u us start =
    let w = take (prefix_len is_word_part (u ∷ us)) (u ∷ us) in
    both (first_passes is_word_start w) (list_all is_word_part w) (begins_run u us start) (run_passes is_word_part (u ∷ us))

numbers_give : (us : List ℕ) → Gives IsSpellablePiece (number_piece us)
numbers_give us = step IsSpellablePiece (number_at us) _ (number_gives us) (λ x k. k)

texts_give : (quote : ℕ) (us : List ℕ) → list_all is_unit us ≡ true → Gives IsSpellablePiece (text_piece quote us)
texts_give quote us h = step IsSpellablePiece (text_at quote us) _ (text_gives (suc (length us)) quote us h) (λ x k. k)

comments_give : (end : Option ℕ) → Gives IsSpellablePiece (comment_piece end)
comments_give None = tt
comments_give (Some n) = refl

signs_give : (s : Option (Sign × ℕ)) → Gives IsSpellablePiece (sign_piece s)
signs_give None = tt
signs_give (Some x) = refl

patterns_give : (us : List ℕ) → list_all is_unit us ≡ true → begins_with 47 us ≡ false → begins_with 42 us ≡ false → Gives IsSpellablePiece (pattern_piece us)
patterns_give us h slash star = step IsSpellablePiece (pattern_at us) _ (pattern_gives us h slash star) (λ x k. k)

slashes_give : (dividing : Bool) (us : List ℕ) → list_all is_unit us ≡ true → Gives IsSpellablePiece (slash_piece dividing us)
slashes_give dividing us h =
    chosen IsSpellablePiece (begins_with 47 (drop 1 us)) _ _ (λ _. refl)
    (λ slash. chosen IsSpellablePiece (begins_with 42 (drop 1 us)) _ _ (λ _. comments_give (comment_length (drop 2 us)))
    (λ star. chosen IsSpellablePiece dividing _ _ (λ _. signs_give (sign_at us))
    (λ _. patterns_give (drop 1 us) (drop_passes is_unit 1 us h) slash star)))

pub piece_gives : (dividing : Bool) (us : List ℕ) → list_all is_unit us ≡ true → Gives IsSpellablePiece (piece_at dividing us)
unfolding piece_at
piece_gives dividing [] h = refl
piece_gives dividing (u ∷ us) h =
    chosen IsSpellablePiece (is_space_unit u) _ _ (λ _. refl)
    (λ _. chosen IsSpellablePiece (is_word_start u) _ _ (λ start. word_gives u us start)
    (λ _. chosen IsSpellablePiece (is_digit u) _ _ (λ _. numbers_give (u ∷ us))
    (λ _. chosen IsSpellablePiece (nat_eq u 46 && first_passes is_digit us) _ _ (λ _. tt)
    (λ _. chosen IsSpellablePiece (is_quote u) _ _ (λ _. texts_give u us (both_second _ _ h))
    (λ _. chosen IsSpellablePiece (nat_eq u 47) _ _ (λ _. slashes_give dividing (u ∷ us) h)
    (λ _. signs_give (sign_at (u ∷ us))))))))

-- ---- tokens

abbrev AreSpellable : List Token → Type 0
AreSpellable ts = list_all (λ t. is_spellable t.kind) ts ≡ true

placed_gives : (place : Place) (r : Result Piece ReadKind) → Gives IsSpellablePiece r → Gives IsSpellablePiece (at_place place r)
placed_gives place (Ok x) h = h
placed_gives place (Err kind) h = tt

in_front_spellable : (o : Option TokenKind) (place : Place) (after_line : Bool) (ts : List Token) → is_spellable_or_none o ≡ true → AreSpellable ts → AreSpellable (piece_tokens o place after_line ++ ts)
in_front_spellable None place after_line ts h k = k
in_front_spellable (Some kind) place after_line ts h k = both (is_spellable kind) (list_all (λ t. is_spellable t.kind) ts) h k

tokens_give : (n : ℕ) (place : Place) (after_line : Bool) (before : List Token) (us : List ℕ) → list_all is_unit us ≡ true → Gives AreSpellable (tokens_from n place after_line before us)
unfolding tokens_from
tokens_give zero place after_line before us h = refl
tokens_give (suc n) place after_line before [] h = refl
tokens_give (suc n) place after_line before (u ∷ us) h =
    step AreSpellable (at_place place (piece_at (divides before) (u ∷ us))) _ (placed_gives place (piece_at (divides before) (u ∷ us)) (piece_gives (divides before) (u ∷ us) h))
    (λ piece spellable.
    let units = take piece.1 (u ∷ us) in
    let here = piece_tokens piece.0 place after_line in
    step AreSpellable (tokens_from n (place_after place units) (line_ended piece.0 after_line units) (here ++ before) (drop piece.1 (u ∷ us))) _
    (tokens_give n (place_after place units) (line_ended piece.0 after_line units) (here ++ before) (drop piece.1 (u ∷ us)) (drop_passes is_unit piece.1 (u ∷ us) h))
    (λ others rest. in_front_spellable piece.0 place after_line others spellable rest))

given : {A E : Type 0} (P : A → Type 0) (m : Result A E) (x : A) → Gives P m → m ≡ Ok x → P x
given P (Ok y) x h e = (let same : y ≡ x = cc in subst P same h)
given P (Err r) x h e = cc

pub each_is_spellable : TokensAreSpellable
each_is_spellable us ts units is =
    let bits : list_all is_unit us ≡ true = list_all-from_AllPass is_unit us units in
    AllPass-from_list_all (λ t. is_spellable t.kind) ts (given AreSpellable (tokens_of us) ts (tokens_give (suc (length us)) (record { line = 1; column = 1 }) false [] us bits) is)
