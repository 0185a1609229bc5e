use Rattle.std.proofs.Common.{◌-◌, ◌≤◌, length}
use Rattle.js_pattern.specs.Tree.{trees_of}
use Rattle.js_regex.specs.Subjects.{subject_in}
use Rattle.js_regex.proofs.Counts.{RowGoes}
use Rattle.js_regex.proofs.matcher.Matcher.terms_fail.Given as goal

abbrev pub invariant-loop-first : goal.invariant-loop-first
invariant-loop-first l =
    RowGoes (subject_in l.fn.self) (trees_of l.fn.terms) l.fn.place (length l.fn.terms - length l.left) (trees_of l.left) l.here
    × (length l.left ≤ length l.fn.terms)

abbrev pub decreases-loop-first : goal.decreases-loop-first
decreases-loop-first l = length l.left
