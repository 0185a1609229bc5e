-- What a run of a program over a host answers.
use Rattle.std.specs.Prelude.{◌≡◌, List}
use Rattle.js_tree.specs.Tree.{FunctionTree, Statements}
use Rattle.js_host.specs.Answers.{Knowledge}
use Rattle.js_host.specs.Seen.{Seen}
use Rattle.run_trees.specs.RunTree.{RunTree, Ended, Stopped}
use Rattle.run_trees.specs.Laws.{Restarts}
use Rattle.js_evaluation.specs.State.{RunEnd}
use Rattle.js_evaluation.specs.Evaluation as def
use Rattle.js_evaluation.specs.Evaluation.{ending_of, run_tree}
use Rattle.js_interp.specs.declared.entry.Entry.{Entry}
use Rattle.js_interp.specs.declared.outcome.Outcome.{Outcome}
use Rattle.js_interp.specs.declared.one_run.RunAnswer.{RunAnswer}
use Rattle.js_interp.specs.declared.one_run.RunAnswer.TheVariants as answer
use Rattle.js_interp.specs.Endings.{seen_ending}

abbrev pub entry_of : Entry → def.Entry
entry_of entry =
    record { url = entry.url; host = entry.host; now = entry.now; settings = entry.settings; fuel = entry.fuel }

-- an outcome, as the definition of a run has it
abbrev pub seen_outcome : Outcome → def.Outcome
seen_outcome outcome = record { ending = seen_ending outcome.ending; alerts = outcome.alerts }

-- The run came to its end: it is the uninterrupted run against every map that completes what the host knew, which knew
-- each of its names. The outcome is how that run ends, with the alerts that the host kept.
pub record IsDone (run : RunTree RunEnd) (known : Knowledge) (outcome : Outcome) (after : Seen) : Type 0 where
  pub end : RunEnd
  pub is_whole : Restarts run known (Ended end after)
  pub ending_is : ending_of end ≡ seen_ending outcome.ending
  pub alerts_are : after.alerts ≡ outcome.alerts

-- Done comes with the outcome of the whole run. Missing comes with its first name that the host doesn't know, against
-- every map that completes what it knows; the host was asked the names up to that one.
abbrev pub Answers : RunTree RunEnd → Knowledge → RunAnswer → Seen → Type 0
Answers run known (answer.Done outcome) after = IsDone run known outcome after
Answers run known (answer.Missing name) after = Restarts run known (Stopped name after)
Answers run known answer.Memory after = Unit {0}

-- the run of a program for an entry
abbrev pub run_of : Statements → List FunctionTree → Entry → RunTree RunEnd
run_of ss functions entry = run_tree ss functions (entry_of entry)
