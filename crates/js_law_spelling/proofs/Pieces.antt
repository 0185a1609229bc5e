-- One piece of a text after another, where the pieces are spellings and what stands between them.
use Rattle.std.proofs.Common.{◌≡◌, ℕ, zero, suc, ◌+◌, ◌≤◌, List, [], ◌∷◌, ◌++◌, length, take, drop, Option, Some, None, Result, Ok, Bool, true, false, ◌||◌, refl, sym, ap, ◌∙◌, length-append, arith}
use Rattle.std.specs.List.{prefix_len}
use Rattle.std.proofs.Math.Seq.{take-append_seam, drop-append_seam}
use Rattle.utf16_text.specs.Letters.{is_space_unit}
use Rattle.js_tree.specs.declared.place.Place.{Place}
use Rattle.js_tree.specs.declared.token.Token.{Token}
use Rattle.js_tree.specs.declared.token.TokenKind.{TokenKind}
use Rattle.js_tree.specs.declared.refusal.ReadKind.{ReadKind}
use Rattle.js_grammar.specs.Reading.{◌>>=◌}
use Rattle.js_grammar.specs.Units.{has_break, place_after}
use Rattle.js_grammar.specs.Printing.{nowhere}
use Rattle.js_grammar.specs.Tokens.{Piece, piece_at, piece_tokens, line_ended, divides, tokens_from}
use Rattle.js_law_places.specs.Placeless.{placeless}

-- the tokens from a place on, in at most n pieces, are these, places aside
pub record Lexes (n : ℕ) (place : Place) (after_line : Bool) (before : List Token) (us : List ℕ) (wanted : List Token) : Type 0 where
  pub tokens : List Token
  pub lexed : tokens_from n place after_line before us ≡ Ok tokens
  pub same : placeless tokens ≡ wanted

-- and so from each place on, with a piece at least for each unit
pub record Lexed (after_line : Bool) (before : List Token) (us : List ℕ) (wanted : List Token) : Type 0 where
  pub lexes : (n : ℕ) (place : Place) → length us ≤ n → Lexes n place after_line before us wanted

abbrev pub with_kind : TokenKind → Place → Bool → Token
with_kind kind place after_line = record { kind = kind; place = place; after_line = after_line }

-- ---- one piece

piece_step : (n : ℕ) (place : Place) (after_line : Bool) (before : List Token) (u : ℕ) (us front back : List ℕ) (k : Option TokenKind) (m : ℕ)
    → piece_at (divides before) (u ∷ us) ≡ Ok (k, m) → take m (u ∷ us) ≡ front → drop m (u ∷ us) ≡ back
    → tokens_from (suc n) place after_line before (u ∷ us)
    ≡ (tokens_from n (place_after place front) (line_ended k after_line front) (piece_tokens k place after_line ++ before) back >>= λ others. Ok (piece_tokens k place after_line ++ others))
unfolding tokens_from
piece_step n place after_line before u us front back k m e taken dropped = rw (e, taken, dropped) refl

-- the same of a piece that stands before others
piece_before : (n : ℕ) (place : Place) (after_line : Bool) (before : List Token) (u : ℕ) (us rest : List ℕ) (k : Option TokenKind)
    → piece_at (divides before) (u ∷ us ++ rest) ≡ Ok (k, length (u ∷ us))
    → tokens_from (suc n) place after_line before (u ∷ us ++ rest)
    ≡ (tokens_from n (place_after place (u ∷ us)) (line_ended k after_line (u ∷ us)) (piece_tokens k place after_line ++ before) rest >>= λ others. Ok (piece_tokens k place after_line ++ others))
piece_before n place after_line before u us rest k e = piece_step n place after_line before u (us ++ rest) (u ∷ us) rest k (length (u ∷ us)) e (take-append_seam (u ∷ us) rest) (drop-append_seam (u ∷ us) rest)

-- ---- the end, a token, and white space

at_end : (n : ℕ) (place : Place) (after_line : Bool) (before : List Token) → Lexes n place after_line before [] []
unfolding tokens_from
at_end zero place after_line before = record { tokens = []; lexed = refl; same = refl }
at_end (suc n) place after_line before = record { tokens = []; lexed = refl; same = refl }

pub end_lexed : (after_line : Bool) (before : List Token) → Lexed after_line before [] []
end_lexed after_line before = record { lexes = λ n place fits. at_end n place after_line before }

-- a piece with a token, and what is lexed behind it
with_token : (n : ℕ) (place : Place) (after_line : Bool) (before : List Token) (u : ℕ) (us rest : List ℕ) (k : TokenKind) (wanted : List Token)
    → piece_at (divides before) (u ∷ us ++ rest) ≡ Ok (Some k, length (u ∷ us))
    → Lexes n (place_after place (u ∷ us)) false (with_kind k place after_line ∷ before) rest wanted
    → Lexes (suc n) place after_line before (u ∷ us ++ rest) (with_kind k nowhere after_line ∷ wanted)
with_token n place after_line before u us rest k wanted e h = record {
  tokens = with_kind k place after_line ∷ h.tokens;
  lexed = rw (piece_before n place after_line before u us rest (Some k) e, h.lexed) refl;
  same = ap (λ ts. with_kind k nowhere after_line ∷ ts) h.same;
}

-- a piece without one
without_token : (n : ℕ) (place : Place) (after_line : Bool) (before : List Token) (u : ℕ) (us rest : List ℕ) (wanted : List Token)
    → piece_at (divides before) (u ∷ us ++ rest) ≡ Ok (None, length (u ∷ us))
    → Lexes n (place_after place (u ∷ us)) (after_line || has_break (u ∷ us)) before rest wanted
    → Lexes (suc n) place after_line before (u ∷ us ++ rest) wanted
without_token n place after_line before u us rest wanted e h = record {
  tokens = h.tokens;
  lexed = rw (piece_before n place after_line before u us rest None e, h.lexed) refl;
  same = h.same;
}

-- the same two, with a piece at least for each unit
enough_token : (n : ℕ) (place : Place) (after_line : Bool) (before : List Token) (u : ℕ) (us rest : List ℕ) (k : TokenKind) (wanted : List Token)
    → piece_at (divides before) (u ∷ us ++ rest) ≡ Ok (Some k, length (u ∷ us))
    → length (u ∷ us ++ rest) ≤ n
    → Lexed false (with_kind k place after_line ∷ before) rest wanted
    → Lexes n place after_line before (u ∷ us ++ rest) (with_kind k nowhere after_line ∷ wanted)
enough_token zero place after_line before u us rest k wanted e fits h = absurd (omega arith)
enough_token (suc n) place after_line before u us rest k wanted e fits h =
    let size = length-append us rest in
    with_token n place after_line before u us rest k wanted e (h.lexes n (place_after place (u ∷ us)) (omega (arith, size)))

enough_white : (n : ℕ) (place : Place) (after_line : Bool) (before : List Token) (u : ℕ) (us rest : List ℕ) (wanted : List Token)
    → piece_at (divides before) (u ∷ us ++ rest) ≡ Ok (None, length (u ∷ us))
    → length (u ∷ us ++ rest) ≤ n
    → Lexed (after_line || has_break (u ∷ us)) before rest wanted
    → Lexes n place after_line before (u ∷ us ++ rest) wanted
enough_white zero place after_line before u us rest wanted e fits h = absurd (omega arith)
enough_white (suc n) place after_line before u us rest wanted e fits h =
    let size = length-append us rest in
    without_token n place after_line before u us rest wanted e (h.lexes n (place_after place (u ∷ us)) (omega (arith, size)))

-- ---- gaps

-- no white space comes first
abbrev pub NoSpaceFirst : List ℕ → Type 0
NoSpaceFirst us = prefix_len is_space_unit us ≡ 0

gap_piece : (dividing : Bool) (gap : ℕ) (rest : List ℕ) → is_space_unit gap ≡ true → NoSpaceFirst rest → piece_at dividing (gap ∷ rest) ≡ Ok (None, 1)
unfolding piece_at
gap_piece dividing gap rest space none = rw (space, none) refl

pub gap_lexed : {after_line : Bool} {before : List Token} {rest : List ℕ} {wanted : List Token} (gap : ℕ) → is_space_unit gap ≡ true → NoSpaceFirst rest → Lexed (after_line || has_break (gap ∷ [])) before rest wanted → Lexed after_line before (gap ∷ rest) wanted
gap_lexed {after_line = after_line} {before = before} {rest = rest} {wanted = wanted} gap space none h = record { lexes = λ n place fits. enough_white n place after_line before gap [] rest wanted (gap_piece (divides before) gap rest space none) fits h }

-- ---- spellings

space_first : (dividing : Bool) (u : ℕ) (us : List ℕ) → is_space_unit u ≡ true → piece_at dividing (u ∷ us) ≡ Ok (None, prefix_len is_space_unit us + 1)
unfolding piece_at
space_first dividing u us space = rw space refl

-- a piece is white space or a token
abbrev gives_token : Result Piece ReadKind → Bool
gives_token (Ok (None, n)) = false
gives_token _ = true

not_both : {A : Type 0} {r : Result Piece ReadKind} (k : TokenKind) (m n : ℕ) → r ≡ Ok (Some k, m) → r ≡ Ok (None, n) → A
not_both k m n a b = let e : true ≡ false = ap gives_token (sym a ∙ b) in cc

no_space_by : (b : Bool) (dividing : Bool) (u : ℕ) (us rest : List ℕ) (k : TokenKind) (m : ℕ) → is_space_unit u ≡ b → piece_at dividing (u ∷ us) ≡ Ok (Some k, m) → NoSpaceFirst (u ∷ rest)
no_space_by true dividing u us rest k m is e = not_both k m (prefix_len is_space_unit us + 1) e (space_first dividing u us is)
no_space_by false dividing u us rest k m is e = rw is refl

-- what is read as a token is not empty, and begins with no white space
pub token_first : (dividing : Bool) (us rest more : List ℕ) (k : TokenKind) → piece_at dividing (us ++ 32 ∷ rest) ≡ Ok (Some k, length us) → NoSpaceFirst (us ++ more)
token_first dividing [] rest more k e = not_both k 0 (prefix_len is_space_unit rest + 1) e (space_first dividing 32 rest refl)
token_first dividing (u ∷ us) rest more k e = no_space_by (is_space_unit u) dividing u (us ++ 32 ∷ rest) (us ++ more) k (length (u ∷ us)) refl e

-- a spelling, and white space behind it
pub spellable_lexed : {k : TokenKind} {gap : ℕ} {rest : List ℕ} {after_line : Bool} {before wanted : List Token} (us : List ℕ)
    → is_space_unit gap ≡ true → piece_at (divides before) (us ++ gap ∷ rest) ≡ Ok (Some k, length us)
    → ((place : Place) → Lexed false (with_kind k place after_line ∷ before) (gap ∷ rest) wanted)
    → Lexed after_line before (us ++ gap ∷ rest) (with_kind k nowhere after_line ∷ wanted)
spellable_lexed {k = k} {gap = gap} {rest = rest} {before = before} [] space e h = not_both k 0 (prefix_len is_space_unit rest + 1) e (space_first (divides before) gap rest space)
spellable_lexed {k = k} {gap = gap} {rest = rest} {after_line = after_line} {before = before} {wanted = wanted} (u ∷ us) space e h = record { lexes = λ n place fits. enough_token n place after_line before u us (gap ∷ rest) k wanted e fits (h place) }
