-- A batch, read line by line.
use Rattle.std.proofs.Common.{◌≡◌, ℕ, ◌+◌, ℤ, List, ◌∷◌, ◌||◌, length, map, None, Ok, refl, sym, ap, ◌∙◌, add-one}
use Rattle.batch_text.specs.declared.batch.Reading.{Reading}
use Rattle.batch_text.specs.Batch.{BatchSaid, Nothing, At, Get, Fail, Good, Bad, line_of, named_moment, count_gets, has_moment, refusal, first_refusal, unless_refused, batch_in}
use Rattle.batch_text.specs.BatchEntering.{EntersBatch, named_after, gets_after, is_begun, entries_with}
use Rattle.std.specs.List.{list_any}

-- behind so many lines a reading has what they say, and the lines that are left say the rest
pub record Stands (start : ℤ) (bytes : List ℕ) (number : ℕ) (reading : Reading) (left : List (List ℕ)) : Type 0 where
  pub before : List BatchSaid
  pub counted : number ≡ length before
  pub named : reading.named ≡ named_moment before
  pub begun : is_begun reading.batch ≡ list_any has_moment before
  pub gets : reading.gets ≡ count_gets before
  pub rest : batch_in start bytes ≡ unless_refused (first_refusal before (map line_of left)) (entries_with reading (map line_of left))

named_step : (before : List BatchSaid) (line : BatchSaid) → named_after (named_moment before) line ≡ named_moment (line ∷ before)
named_step before Nothing = refl
named_step before (At moment) = refl
named_step before (Get seen) = refl
named_step before (Fail proxy) = refl
named_step before (Good proxy) = refl
named_step before Bad = refl

gets_step : (before : List BatchSaid) (line : BatchSaid) → gets_after (count_gets before) line ≡ count_gets (line ∷ before)
gets_step before Nothing = refl
gets_step before (At moment) = refl
gets_step before (Get seen) = refl
gets_step before (Fail proxy) = refl
gets_step before (Good proxy) = refl
gets_step before Bad = refl

-- behind a line that is taken in
pub goes_on : {start : ℤ} {bytes : List ℕ} {number : ℕ} {old new : Reading} {line : List ℕ} {left : List (List ℕ)} → Stands start bytes number old (line ∷ left) → EntersBatch old (line_of line) (number + 1) (Ok tt) new → Stands start bytes (number + 1) new left
goes_on {old = old} {line = line} {left = left} stands enters =
    let named : old.named ≡ named_moment stands.before = stands.named in
    let begun : is_begun old.batch ≡ list_any has_moment stands.before = stands.begun in
    let gets : old.gets ≡ count_gets stands.before = stands.gets in
    let allowed : refusal (named_moment stands.before) (list_any has_moment stands.before) (count_gets stands.before) (line_of line) ≡ None = rw (sym named, sym begun, sym gets) enters.0 in
    record {
      before = line_of line ∷ stands.before;
      counted = ap (λ n. n + 1) stands.counted ∙ add-one _;
      named = enters.1 ∙ rw named (named_step stands.before (line_of line));
      begun = enters.2 ∙ ap (λ b. has_moment (line_of line) || b) begun;
      gets = enters.3 ∙ rw gets (gets_step stands.before (line_of line));
      rest = stands.rest ∙ rw (allowed, enters.4 (map line_of left)) refl;
    }
