use Rattle.std.proofs.Common.{◌≡◌, ◌+◌}
use Rattle.js_evaluation.specs.State.{AfterValue}
use Rattle.js_machine.specs.declared.now.Now.TheVariants.{Begin}
use Rattle.js_machine.specs.Moves.{present, weight, waits}
use Rattle.run_trees.specs.RunTree.{walk}
use Rattle.js_runs.proofs.running.run_on.Given as goal

abbrev pub invariant-loop-now : goal.invariant-loop-now
invariant-loop-now g l =
    ((last : AfterValue) → walk (present last l.fn.machine (Begin l.fn.first)) (g.H.Host.seen l.fn.host) ≡ walk (present last l.machine l.now) (g.H.Host.seen l.host))
    × (l.fn.alerts ≡ (g.H.Host.seen l.fn.host).alerts → l.alerts ≡ (g.H.Host.seen l.host).alerts)

abbrev pub decreases-loop-now : goal.decreases-loop-now
decreases-loop-now g l = weight l.machine + waits l.now
