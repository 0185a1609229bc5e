-- What a run over a host answers.
use Rattle.std.specs.Prelude.{ℕ, List}
use Rattle.js_host.specs.Answers.{Knowledge}
use Rattle.js_host.specs.Seen.{Seen}
use Rattle.run_trees.specs.RunTree.{RunTree, Ended, Stopped}
use Rattle.run_trees.specs.Laws.{Restarts}
use Rattle.session_core.specs.declared.run.Attempt.{Attempt}
use Rattle.session_core.specs.declared.run.Attempt.TheVariants.{Done, Missing, Memory}

-- A host that knows this was asked nothing before the run, and has seen that after it. A run that is done is the whole run
-- against every map that completes what is known, and its outcome is given; one that is not misses the first name of each
-- of these runs that is not known.
abbrev pub Answers : {Out End : Type 0} → (Out → End → List (List ℕ) → Type 0) → RunTree End → Knowledge → Attempt Out → Seen → Type 0
Answers {Out} {End} gives run known (Done out) after = (end : End) × gives out end after.alerts × Restarts run known (Ended end after)
Answers gives run known (Missing name) after = Restarts run known (Stopped name after)
Answers gives run known Memory after = Unit {0}
