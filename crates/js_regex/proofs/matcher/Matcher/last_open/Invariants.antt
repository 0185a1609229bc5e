use Rattle.js_regex.specs.Runs.{IsLater}
use Rattle.js_regex.specs.Subjects.{subject_in}
use Rattle.js_regex.specs.Turns.{leaving_from}
use Rattle.js_regex.proofs.matcher.Matcher.last_open.Given as goal

abbrev pub invariant-loop-cost : goal.invariant-loop-cost
invariant-loop-cost l =
    IsLater (leaving_from (subject_in l.fn.self) l.fn.state l.fn.from l.fn.last) l.fn.fuel
    (leaving_from (subject_in l.fn.self) l.fn.state l.fn.from l.place) l.fuel

abbrev pub decreases-loop-cost : goal.decreases-loop-cost
decreases-loop-cost l = l.place
