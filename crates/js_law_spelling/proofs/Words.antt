-- Each word's spelling is read as that word.
use Rattle.std.proofs.Common.{◌≡◌, ℕ, List, [], ◌∷◌, ◌++◌, length, take, Some, Ok, Bool, true, false, refl, arith}
use Rattle.std.proofs.lemmas.Bool.Decides.{nat_tests}
use Rattle.std.proofs.lemmas.List.Concat.{flat_map-cons}
use Rattle.std.proofs.Math.Seq.{take-append_seam}
use Rattle.std.specs.List.{prefix_len, list_all}
use Rattle.utf16_text.specs.Escape.{escaped_unit, escaped}
use Rattle.js_tree.specs.declared.token.TokenKind.TheVariants as token
use Rattle.js_grammar.specs.Units.{first_passes, is_word_start, is_word_part}
use Rattle.js_grammar.specs.Tokens.{word_piece, piece_at}
use Rattle.js_law_spelling.proofs.Units.{both_first, both_second, start_shown, shown_no_space, run_length}

-- ---- the spelling

plain_unit : (u : ℕ) → is_word_part u ≡ true → escaped_unit false u ≡ u ∷ []
plain_unit u h = grind (arith, nat_tests)

pub word_spelling : (w : List ℕ) → list_all is_word_part w ≡ true → escaped false w ≡ w
word_spelling [] h = refl
word_spelling (u ∷ us) h =
    let first : escaped_unit false u ≡ u ∷ [] = plain_unit u (both_first _ _ h) in
    let others : escaped false us ≡ us = word_spelling us (both_second _ _ h) in
    rw (flat_map-cons (escaped_unit false) u us, first, others) refl

-- ---- reading

piece_of_run : (us w : List ℕ) (n : ℕ) → prefix_len is_word_part us ≡ n → take n us ≡ w → word_piece us ≡ Ok (Some (token.Word w), n)
piece_of_run us w n run front = rw (run, front) refl

at_word : (dividing : Bool) (u : ℕ) (us : List ℕ) → is_word_start u ≡ true → piece_at dividing (u ∷ us) ≡ word_piece (u ∷ us)
unfolding piece_at
at_word dividing u us start = rw (shown_no_space u (start_shown u start), start) refl

pub word_reads : (dividing : Bool) (w : List ℕ) (gap : ℕ) (rest : List ℕ) → first_passes is_word_start w ≡ true → list_all is_word_part w ≡ true → is_word_part gap ≡ false
    → piece_at dividing (w ++ gap ∷ rest) ≡ Ok (Some (token.Word w), length w)
word_reads dividing [] gap rest start parts stop = cc
word_reads dividing (u ∷ us) gap rest start parts stop =
    rw (at_word dividing u (us ++ gap ∷ rest) start)
    (piece_of_run (u ∷ us ++ gap ∷ rest) (u ∷ us) (length (u ∷ us)) (run_length is_word_part (u ∷ us) gap rest parts stop) (take-append_seam (u ∷ us) (gap ∷ rest)))
