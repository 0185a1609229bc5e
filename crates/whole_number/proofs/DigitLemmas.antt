-- How many bytes the text of a whole number takes.
use Rattle.std.proofs.Common.{◌≤◌, ℤ, pos, negsuc, length, arith}
use Rattle.std.specs.Fmt.{signed_decimal}
use Rattle.std.proofs.lemmas.Fmt.{length_signed_le}
use Rattle.std.proofs.lemmas.Int.{ints}
use Rattle.whole_number.specs.Whole.{IsWhole}
use lib.Signed.{mag}

mag-small : (z : ℤ) → IsWhole z → mag z ≤ 9007199254740991
mag-small (pos n) h = omega (arith, ints)
mag-small (negsuc n) h = omega (arith, ints)

pub text_fits : (z : ℤ) → IsWhole z → length (signed_decimal z) ≤ 17
text_fits z h = let small = mag-small z h in length_signed_le 16 z (omega arith) (omega arith)
