use Rattle.std.proofs.Common.{◌≡◌, ◌+◌, ◌≤◌, min, take}
use Rattle.whole_number.specs.declared.whole.TheConstants.{LARGEST}
use Rattle.utf16_text.specs.Digits.{value_of}
use Rattle.whole_number.proofs.numeral.capped_value.Given as goal

abbrev pub invariant-loop-digit : goal.invariant-loop-digit
invariant-loop-digit l = (l.value ≤ LARGEST + 1) × (l.value ≡ min (value_of l.base (take l.digit-index l.digits)) (LARGEST + 1))
