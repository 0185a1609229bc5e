use Rattle.std.proofs.Common.{◌≡◌, ◌+◌, length}
use Rattle.std.specs.List.{prefix_len}
use Rattle.number_builtins.specs.Parsing.{is_digit_in}
use Rattle.number_builtins.proofs.parsing.digits_before.Given as goal

abbrev pub invariant-loop-unit : goal.invariant-loop-unit
invariant-loop-unit l = record {
  counted : l.count + length l.rest ≡ length l.units;
  digits : prefix_len (is_digit_in l.radix) l.units ≡ l.count + prefix_len (is_digit_in l.radix) l.rest;
}

abbrev pub decreases-loop-unit : goal.decreases-loop-unit
decreases-loop-unit l = length l.rest
