use Rattle.std.proofs.Common.{◌+◌, ◌≤◌, length}
use Rattle.batch_text.proofs.Batches.{Stands}
use Rattle.batch_text.proofs.batch.read_batch.Given as goal
use Rattle.utf16_text.specs.declared.limits.TheConstants.{LONGEST_FILE}

-- what is left to read says the rest, and there are no more lines than bytes
abbrev pub invariant-loop-line : goal.invariant-loop-line
invariant-loop-line l =
    Stands l.fn.start l.fn.bytes l.number l.reading l.line-iterator × (l.number + length l.line-iterator ≤ LONGEST_FILE)
