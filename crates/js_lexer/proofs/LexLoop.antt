-- Tokens as a loop reads them.
use Rattle.std.proofs.Common.{◌≡◌, ℕ, zero, suc, ◌+◌, ◌-◌, ◌<◌, ◌≤◌, List, [], ◌∷◌, ◌++◌, length, take, drop, reverse, length-drop, length-take, Bool, Option, Some, None, Result, Ok, Err, refl, sym, ap, ◌∙◌, append_assoc, arith}
use Rattle.std.proofs.lemmas.List.{append-nil, nil_from_length, reverse-append}
use Rattle.js_tree.specs.declared.place.Place.{Place}
use Rattle.js_tree.specs.declared.token.Token.{Token}
use Rattle.js_tree.specs.declared.token.TokenKind.{TokenKind}
use Rattle.js_tree.specs.declared.refusal.ReadAnswer.{ReadAnswer}
use Rattle.js_tree.specs.declared.refusal.ReadAnswer.TheVariants as answers
use Rattle.js_grammar.specs.Reading.{Refusal, Fails, ◌>>=◌}
use Rattle.js_grammar.specs.Units.{place_after}
use Rattle.js_grammar.specs.Tokens.{divides, piece_at, at_place, piece_tokens, line_ended, tokens_from, tokens_of}
use Rattle.js_lexer.proofs.Cuts.{goes_behind, piece_ends}
use Rattle.js_lexer.proofs.Placed.{at_place-ok}

abbrev pub with_front : List Token → Result (List Token) Refusal → Result (List Token) Refusal
with_front front read = read >>= λ ts. Ok (front ++ ts)

-- The tokens so far and what the rest gives are the tokens of the source. fuel: above the number of pieces still to
-- come.
pub record SoFar (all : List Token) (place : Place) (after_line : Bool) (rest source : List ℕ) : Type 0 where
  pub fuel : ℕ
  pub enough : length rest < fuel
  pub line : place.line + length rest ≤ length source + 1
  pub column : place.column + length rest ≤ length source + 1
  pub first : 0 < place.column
  pub so_far : with_front all (tokens_from fuel place after_line (reverse all) rest) ≡ tokens_of source
  pub end : place_after place rest ≡ place_after (record { line = 1; column = 1 }) source

pub begins : (source : List ℕ) → with_front [] (tokens_of source) ≡ tokens_of source
begins source = nothing (tokens_of source)
  where
    nothing : (r : Result (List Token) Refusal) → with_front [] r ≡ r
    nothing (Ok ts) = refl
    nothing (Err e) = refl

with_front-with_front : (a b : List Token) (r : Result (List Token) Refusal) → with_front a (with_front b r) ≡ with_front (a ++ b) r
with_front-with_front a b (Ok ts) = ap (λ us. Ok us) (sym (append_assoc a b ts))
with_front-with_front a b (Err e) = refl

reverse_with : (all : List Token) (o : Option TokenKind) (place : Place) (after_line : Bool) → piece_tokens o place after_line ++ reverse all ≡ reverse (all ++ piece_tokens o place after_line)
reverse_with all None place after_line = ap reverse (sym (append-nil all))
reverse_with all (Some kind) place after_line = sym (reverse-append all (piece_tokens (Some kind) place after_line))

one_piece : (n : ℕ) (place : Place) (after_line : Bool) (before : List Token) (us : List ℕ) (o : Option TokenKind) (k : ℕ) → 0 < length us
    → at_place place (piece_at (divides before) us) ≡ Ok (o, k)
    → tokens_from (suc n) place after_line before us ≡ with_front (piece_tokens o place after_line) (tokens_from n (place_after place (take k us)) (line_ended o after_line (take k us)) (piece_tokens o place after_line ++ before) (drop k us))
unfolding tokens_from
one_piece n place after_line before [] o k some h = absurd (omega arith)
one_piece n place after_line before (u ∷ us) o k some h = rw h refl

one_fault : (n : ℕ) (place : Place) (after_line : Bool) (before : List Token) (us : List ℕ) (r : Refusal) → 0 < length us
    → at_place place (piece_at (divides before) us) ≡ Err r → tokens_from (suc n) place after_line before us ≡ Err r
unfolding tokens_from
one_fault n place after_line before [] r some h = absurd (omega arith)
one_fault n place after_line before (u ∷ us) r some h = rw h refl

at_end : (n : ℕ) (place : Place) (after_line : Bool) (before : List Token) (us : List ℕ) → length us ≤ 0 → tokens_from n place after_line before us ≡ Ok []
unfolding tokens_from
at_end zero place after_line before us h = refl
at_end (suc n) place after_line before [] h = refl
at_end (suc n) place after_line before (u ∷ us) h = absurd (omega arith)

module _ (all : List Token) (place : Place) (after_line : Bool) (rest source : List ℕ) (s : SoFar all place after_line rest source) where
  one_more : s.fuel ≡ suc (s.fuel - 1)
  one_more = omega (arith, s.enough)

  goes_on : (o : Option TokenKind) (k : ℕ) (next : Place) → 0 < length rest → at_place place (piece_at (divides (reverse all)) rest) ≡ Ok (o, k) → 0 < k → k ≤ length rest
      → next ≡ place_after place (take k rest) → next.line ≤ place.line + length (take k rest) → next.column ≤ place.column + length (take k rest) → 0 < next.column
      → SoFar (all ++ piece_tokens o place after_line) next (line_ended o after_line (take k rest)) (drop k rest) source
  goes_on o k next some h positive within is line column first =
      let taken : length (take k rest) ≡ k = simp length-take (omega arith) in
      let left : length (drop k rest) ≡ length rest - k = length-drop k rest in
      let here = piece_tokens o place after_line in
      let more = tokens_from (s.fuel - 1) (place_after place (take k rest)) (line_ended o after_line (take k rest)) (here ++ reverse all) (drop k rest) in
      let now : with_front all (tokens_from s.fuel place after_line (reverse all) rest) ≡ with_front (all ++ here) more
      = ap (with_front all) (ap (λ n. tokens_from n place after_line (reverse all) rest) one_more ∙ one_piece (s.fuel - 1) place after_line (reverse all) rest o k some h) ∙ with_front-with_front all here more in
      record {
        fuel = s.fuel - 1;
        enough = omega (arith, s.enough);
        line = omega (arith, s.line);
        column = omega (arith, s.column);
        first = first;
        so_far = ap (λ (ts : List Token). with_front (all ++ here) (tokens_from (s.fuel - 1) next (line_ended o after_line (take k rest)) ts (drop k rest))) (sym (reverse_with all o place after_line))
            ∙ ap (λ (q : Place). with_front (all ++ here) (tokens_from (s.fuel - 1) q (line_ended o after_line (take k rest)) (here ++ reverse all) (drop k rest))) is ∙ sym now ∙ s.so_far;
        end = ap (λ q. place_after q (drop k rest)) is ∙ sym (goes_behind k rest place (piece_ends (divides (reverse all)) rest (o, k) (at_place-ok place _ _ h))) ∙ s.end;
      }

  -- the same, over what the calls of the loop gave
  pub turns : (o : Option TokenKind) (k : ℕ) (next : Place) (all' : List Token) (ended : Bool) (units others : List ℕ) → 0 < length rest
      → at_place place (piece_at (divides (reverse all)) rest) ≡ Ok (o, k) → (0 < k) × (k ≤ length rest) → units ≡ take k rest → others ≡ drop k rest
      → all' ≡ all ++ piece_tokens o place after_line → ended ≡ line_ended o after_line units → next ≡ place_after place units
      → next.line ≤ place.line + length units → next.column ≤ place.column + length units → 0 < next.column → SoFar all' next ended others source
  turns o k next all' ended units others some h within is_units is_others put is_ended is line column first =
      let long : length units ≡ length (take k rest) = ap length is_units in
      rw (put, is_ended, is_others, is_units) (goes_on o k next some h within.0 within.1 (is ∙ ap (place_after place) is_units) (omega arith) (omega arith) first)

  pub fails : (e : ReadAnswer) → 0 < length rest → Fails e (at_place place (piece_at (divides (reverse all)) rest)) → Fails e (tokens_of source)
  fails answers.Memory some h = tt
  fails (answers.Refused kind at) some h = sym s.so_far ∙ ap (with_front all) (ap (λ n. tokens_from n place after_line (reverse all) rest) one_more ∙ one_fault (s.fuel - 1) place after_line (reverse all) rest (kind, at) some h)

  pub ends_here : length rest ≤ 0 → place ≡ place_after (record { line = 1; column = 1 }) source
  ends_here none = ap (place_after place) (sym (nil_from_length rest (omega (arith, none)))) ∙ s.end

  pub is_done : length rest ≤ 0 → tokens_of source ≡ Ok all
  is_done none = sym s.so_far ∙ ap (with_front all) (at_end s.fuel place after_line (reverse all) rest none) ∙ ap (λ (ts : List Token). Ok ts) (append-nil all)
