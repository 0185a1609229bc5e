use Rattle.std.proofs.Common.{◌-◌, length}
use Rattle.js_regex.specs.Subjects.{subject_in}
use Rattle.js_regex.proofs.SingleTurns.{Onward}
use Rattle.js_regex.proofs.matcher.Matcher.may.Given as goal

abbrev pub invariant-loop-self : goal.invariant-loop-self
invariant-loop-self l = Onward (subject_in l.fn.self) l.fn.body l.fn.begun l.fn.fuel l.now l.fuel

abbrev pub decreases-loop-self : goal.decreases-loop-self
decreases-loop-self l = length l.self.text.now - l.now.place
