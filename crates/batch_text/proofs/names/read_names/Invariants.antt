use Rattle.std.proofs.Common.{◌≡◌, ◌+◌, ◌≤◌, length}
use Rattle.batch_text.specs.Names.{names_behind, names_in}
use Rattle.batch_text.proofs.names.read_names.Given as goal
use Rattle.utf16_text.specs.declared.limits.TheConstants.{LONGEST_FILE}

-- what is left to read says the rest, and there are no more lines than bytes
abbrev pub invariant-loop-line : goal.invariant-loop-line
invariant-loop-line l = (names_in l.fn.bytes ≡ names_behind l.number l.table l.line-iterator) × (l.number + length l.line-iterator ≤ LONGEST_FILE)
