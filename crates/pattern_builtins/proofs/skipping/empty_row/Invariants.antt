use Rattle.std.proofs.Common.{◌≡◌, ℕ, length, get_or}
use Rattle.pattern_builtins.proofs.skipping.empty_row.Given as goal

abbrev pub invariant-loop : goal.invariant-loop
invariant-loop l = record {
  count : length l.row.items ≡ l.counter;
  zeros : (k : ℕ) → get_or l.row.items k 0 ≡ 0;
}
