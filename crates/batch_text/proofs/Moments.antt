-- What std's `parse` reads, in the words of a batch.
use Rattle.std.proofs.Common.{◌≡◌, ℕ, ◌<◌, ◌^◌, ◌&&◌, Bool, true, false, List, Err, None, refl, length, nat_le, arith, rules, w64}
use Rattle.std.specs.List.{list_all}
use Rattle.std.specs.Char.{is_ascii_digit}
use Rattle.std.proofs.lemmas.Bool.Decides.{nat_tests}
use Rattle.std.specs.Str.Parse.{ParsesSigned, digits_value}
use Rattle.std.proofs.lemmas.Str.Parse.{IsNumeralModel, numerals_by_value, parse_signed_digits}
use Rattle.batch_text.specs.Batch.{is_number, moment_of}

abbrev AreDigits : List ℕ → Type 0
AreDigits text = list_all is_ascii_digit text ≡ true

own : IsNumeralModel AreDigits (digits_value 10)
own = numerals_by_value AreDigits (search rules)

and_first : (a b : Bool) → (a && b) ≡ true → a ≡ true
and_first true b e = refl
and_first false b e = e

and_second : (a b : Bool) → (a && b) ≡ true → b ≡ true
and_second true b e = e
and_second false b e = cc

-- digits that `parse` refuses write no moment
pub past_moments : {E : Type 0} (text : List ℕ) (e : E) → ParsesSigned w64 10 text (Err e) → is_number text ≡ true → None ≡ moment_of text
past_moments text e read number =
    let digits : AreDigits text = and_second _ (list_all is_ascii_digit text) number in
    let some : nat_le 1 (length text) ≡ true = and_first (nat_le 1 (length text)) (nat_le (length text) 20) (and_first _ (list_all is_ascii_digit text) number) in
    let one : 0 < length text = grind (arith, nat_tests) in
    let large : digits_value 10 text < 2 ^ 63 → ⊥ = λ small. parse_signed_digits own w64 text (Err e) read digits (one, small) in
    let above : nat_le (digits_value 10 text) 253370764799 ≡ false = grind (arith, nat_tests) in
    rw (number, above) refl
