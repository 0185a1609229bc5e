use Rattle.std.proofs.Common.{◌≡◌, ◌++◌, drop, map}
use Rattle.batch_text.specs.Batch.{entry_seen}
use Rattle.js_interp.specs.Answers.{entry_of}
use Rattle.pac_command.specs.Urls.{entries_for}
use Rattle.pac_command.proofs.urls.entries_for.Given as goal

-- those of the lines so far, and of those that are left
abbrev pub invariant-loop-line : goal.invariant-loop-line
invariant-loop-line l = map entry_of l.entries.items ++ entries_for l.given (map entry_seen (drop l.line-index l.batch)) ≡ entries_for l.given (map entry_seen l.batch)
