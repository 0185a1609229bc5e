-- Whole numbers from -(2^53 - 1) to 2^53 - 1, and their negatives.
use Rattle.std.proofs.Common.{◌≤◌, zero, suc, ℤ, pos, negsuc, neg_ℤ, arith}
use Rattle.std.proofs.Math.Facts.{leb_yes, yes_leb}
use Rattle.whole_number.specs.Whole.{IsWhole}

pub neg_whole : (n : ℤ) → IsWhole n → IsWhole (neg_ℤ n)
neg_whole (pos zero) h = (record { le = tt }, record { le = tt })
neg_whole (pos (suc n)) h = let b : suc n ≤ 9007199254740991 = leb_yes h.1.le in (record { le = yes_leb (omega (arith, b)) }, record { le = tt })
neg_whole (negsuc n) h = let b : n ≤ 9007199254740990 = leb_yes h.0.le in (record { le = tt }, record { le = yes_leb (omega (arith, b)) })
