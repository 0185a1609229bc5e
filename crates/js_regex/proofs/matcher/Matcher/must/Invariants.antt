use Rattle.js_regex.specs.Subjects.{subject_in}
use Rattle.js_regex.specs.Turns.{IsPlain, TurnsTo}
use Rattle.js_regex.proofs.matcher.Matcher.must.Given as goal

abbrev pub invariant-loop-now : goal.invariant-loop-now
invariant-loop-now l = TurnsTo (subject_in l.fn.self) l.fn.body l.fn.begun l.fn.fuel l.now l.fuel × IsPlain l.fn.body l.now.bounds

abbrev pub decreases-loop-now : goal.decreases-loop-now
decreases-loop-now l = l.now.bounds.least
