use Rattle.std.proofs.Common.{◌+◌, ◌*◌}
use Rattle.js_regex.specs.Moves.{outcome_of, weight}
use Rattle.js_regex.specs.Runs.{IsLater, outcome_from}
use Rattle.js_regex.specs.Subjects.{subject_in}
use Rattle.js_regex.proofs.matcher.Matcher.run.Given as goal

abbrev pub invariant-steps : goal.invariant-steps
invariant-steps l = IsLater (outcome_from (subject_in l.fn.self) l.fn.root l.fn.state) l.fn.fuel (outcome_of (subject_in l.fn.self) l.state l.now) l.fuel

abbrev pub decreases-steps : goal.decreases-steps
decreases-steps l = 4 * l.fuel + weight l.now
