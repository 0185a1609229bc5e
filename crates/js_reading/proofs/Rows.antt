-- Rows of parts, as a loop reads them.
use Rattle.std.proofs.Common.{◌≡◌, ℕ, suc, ◌+◌, List, [], ◌∷◌, ◌++◌, length, Result, Ok, Err, refl, sym, ap, subst, ◌∙◌, append_assoc, arith}
use Rattle.std.proofs.lemmas.List.{append-nil}
use Rattle.std.specs.Borrow.{Bor}
use Rattle.js_tree.specs.declared.token.Token.{Token}
use Rattle.js_tree.specs.declared.refusal.ReadAnswer.{ReadAnswer}
use Rattle.js_tree.specs.declared.refusal.ReadAnswer.TheVariants as answers
use Rattle.js_grammar.specs.declared.turn.Turn.{Turn}
use Rattle.js_grammar.specs.declared.turn.Turn.TheVariants.{More, Last, End}
use Rattle.js_grammar.specs.Reading.{Refusal, Fails}
use Rattle.js_grammar.specs.Readers.{Reader, turned, row_of, row}
use Rattle.js_reading.specs.Reads.{Reads, with_front}

-- With so many turns left, the rest with what was read before in front gives the whole.
pub record SoFar {A : Type 0} (turn : Reader (Turn A)) (front : List A) (rest : List Token) (left : ℕ) (whole : Result (List A × List Token) Refusal) : Type 0 where
  pub so_far : with_front front (row_of turn left rest) ≡ whole

with_front-nil : {A : Type 0} (read : Result (List A × List Token) Refusal) → with_front [] read ≡ read
with_front-nil (Ok x) = refl
with_front-nil (Err e) = refl

with_front-more : {A : Type 0} (front : List A) (x : A) (after : List Token) (others : Result (List A × List Token) Refusal) → with_front front (turned (More x) after others) ≡ with_front (front ++ x ∷ []) others
with_front-more front x after (Ok o) = ap (λ xs. Ok (xs, o.1)) (sym (append_assoc front (x ∷ []) o.0))
with_front-more front x after (Err e) = refl

module _ {A : Type 0} (turn : Reader (Turn A)) where
  row_of-suc : (n : ℕ) (ts : List Token) (t : Turn A) (after : List Token) → turn ts ≡ Ok (t, after) → row_of turn (suc n) ts ≡ turned t after (row_of turn n after)
  unfolding row_of
  row_of-suc n ts t after e = rw e refl

  row_of-err : (n : ℕ) (ts : List Token) (r : Refusal) → turn ts ≡ Err r → row_of turn (suc n) ts ≡ Err r
  unfolding row_of
  row_of-err n ts r e = rw e refl

  row_of-zero : (ts : List Token) → row_of turn 0 ts ≡ Ok ([], ts)
  unfolding row_of
  row_of-zero ts = refl

  pub begins : (front : List A) (tokens : List Token) (turns left : ℕ) → left ≡ turns → SoFar turn front tokens left (with_front front (row_of turn turns tokens))
  begins front tokens turns left e = record { so_far = ap (λ n. with_front front (row_of turn n tokens)) e }

  -- a row from its first turn on
  pub from_first : (tokens : List Token) (turns : ℕ) (r : Result (List A × Bor (List Token)) ReadAnswer) → Reads (with_front [] (row_of turn turns tokens)) r → turns ≡ length tokens + 1 → Reads (row turn tokens) r
  from_first tokens turns r h e =
      let all : turns ≡ suc (length tokens) = omega arith in
      subst (λ read. Reads read r) (with_front-nil (row_of turn turns tokens) ∙ ap (λ n. row_of turn n tokens) all) h

  -- a row behind its first turn
  pub from_second : (tokens rest : List Token) (x : A) (turns : ℕ) (r : Result (List A × Bor (List Token)) ReadAnswer) → turn tokens ≡ Ok (More x, rest)
      → Reads (with_front ([] ++ x ∷ []) (row_of turn turns rest)) r → turns ≡ length tokens → Reads (row turn tokens) r
  from_second tokens rest x turns r e h all =
      subst (λ read. Reads read r)
      (sym (with_front-more [] x rest (row_of turn turns rest))
      ∙ with_front-nil (turned (More x) rest (row_of turn turns rest))
      ∙ sym (row_of-suc turns tokens (More x) rest e)
      ∙ ap (λ n. row_of turn (suc n) tokens) all)
      h

  module _ (front : List A) (rest : List Token) (left : ℕ) (whole : Result (List A × List Token) Refusal) (s : SoFar turn front rest left whole) where
    pub no_more : left ≡ 0 → whole ≡ Ok (front, rest)
    no_more none = sym s.so_far ∙ ap (λ n. with_front front (row_of turn n rest)) none ∙ ap (with_front front) (row_of-zero rest) ∙ ap (λ (xs : List A). Ok (xs, rest)) (append-nil front)

    module _ (fewer : ℕ) (one_more : left ≡ suc fewer) where
      opened : (t : Turn A) (after : List Token) → turn rest ≡ Ok (t, after) → with_front front (turned t after (row_of turn fewer after)) ≡ whole
      opened t after e = ap (with_front front) (sym (row_of-suc fewer rest t after e) ∙ ap (λ n. row_of turn n rest) (sym one_more)) ∙ s.so_far

      pub goes_on : (t : Turn A) (after : List Token) (x : A) → t ≡ More x → turn rest ≡ Ok (t, after) → SoFar turn (front ++ x ∷ []) after fewer whole
      goes_on t after x is e = record {
        so_far = sym (with_front-more front x after (row_of turn fewer after)) ∙ opened (More x) after (e ∙ ap (λ u. Ok (u, after)) is);
      }

      pub is_last : (t : Turn A) (after : List Token) (x : A) → t ≡ Last x → turn rest ≡ Ok (t, after) → whole ≡ Ok (front ++ x ∷ [], after)
      is_last t after x is e = sym (opened (Last x) after (e ∙ ap (λ u. Ok (u, after)) is))

      pub is_end : (t : Turn A) (after : List Token) → t ≡ End → turn rest ≡ Ok (t, after) → whole ≡ Ok (front, after)
      is_end t after is e = sym (opened End after (e ∙ ap (λ u. Ok (u, after)) is)) ∙ ap (λ (xs : List A). Ok (xs, after)) (append-nil front)

      pub fails : (e : ReadAnswer) → Fails e (turn rest) → Fails e whole
      fails answers.Memory h = tt
      fails (answers.Refused kind place) h = sym s.so_far ∙ ap (with_front front) (ap (λ n. row_of turn n rest) one_more ∙ row_of-err fewer rest (kind, place) h)
