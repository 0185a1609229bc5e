use Rattle.std.proofs.Common.{◌≡◌, ◌≤◌, ◌+◌, length}
use Rattle.utf16_text.specs.declared.limits.TheConstants.{LONGEST_FILE}
use Rattle.js_forms.specs.Places.{first_place, units_before}
use Rattle.js_forms.proofs.places.units_before.Given as goal

-- what was passed and what is left are the whole; no line and no column is further than what was passed
abbrev pub invariant-loop-left : goal.invariant-loop-left
invariant-loop-left l = record {
  short : length l.units ≤ LONGEST_FILE;
  passed : l.count + length l.left ≡ length l.units;
  line : l.here.line ≤ 1 + l.count;
  column : l.here.column ≤ 1 + l.count;
  same : l.count + units_before l.place l.here l.left ≡ units_before l.place first_place l.units;
}

abbrev pub decreases-loop-left : goal.decreases-loop-left
decreases-loop-left l = length l.left
