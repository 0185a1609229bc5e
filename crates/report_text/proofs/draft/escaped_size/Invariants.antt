use Rattle.std.proofs.Common.{◌≡◌, false, length, take}
use Rattle.std.specs.Prelude.{min}
use Rattle.utf16_text.specs.Escape.{escaped}
use Rattle.report_text.specs.Draft.{largest_size}
use Rattle.report_text.proofs.draft.escaped_size.Given as goal

abbrev pub invariant-loop-unit : goal.invariant-loop-unit
invariant-loop-unit l = l.size ≡ min (length (escaped false (take l.unit-index l.units))) largest_size
