use Rattle.std.proofs.Common.{◌≡◌, ◌++◌}
use Rattle.std.specs.Prelude.{reverse}
use Rattle.number_builtins.specs.Numerals.{digits_text}
use Rattle.number_builtins.proofs.numerals.push_digits.Given as goal

abbrev pub invariant-loop-rest : goal.invariant-loop-rest
invariant-loop-rest l =
    l.units.items ++ reverse (digits_text l.radix l.rest) ≡ l.fn.units.items ++ reverse (digits_text l.radix l.number)

abbrev pub decreases-loop-rest : goal.decreases-loop-rest
decreases-loop-rest l = l.rest
