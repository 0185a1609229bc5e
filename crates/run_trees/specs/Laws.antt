-- The laws of runs: the extension law, and what a run over a host says of the whole run.
use Rattle.std.specs.Prelude.{◌≡◌, ◌≤◌, ℕ, List, length, Option, Some, None}
use Rattle.std.specs.List.{All, IsDistinct}
use Rattle.pac_names.specs.Names.{Name}
use Rattle.js_host.specs.Answers.{AnswerMap, Extends, Knowledge, Completes, answer_in, first_missing, partly, wholly}
use Rattle.js_host.specs.Seen.{Seen, Reply, Replies, Lacks, looked_up, alerted, kept_alerts, fresh}
use Rattle.run_trees.specs.RunTree.{RunTree, Done, Ask, Tell, Walked, Ended, Stopped, walk}
use Rattle.run_trees.specs.WholeRun.{asked_names, names_to, whole_run}
use Rattle.pac_names.specs.declared.limits.TheConstants.{MOST_NAMES}
use Rattle.pac_names.specs.Comparing.{same_name}

-- distinct names, of which a run may ask so many
pub record AreFew (names : List Name) : Type 0 where
  pub distinct : IsDistinct same_name names
  pub few : length names ≤ MOST_NAMES

-- The names that a run asks are distinct, and at most as many as it may ask.
abbrev pub AsksFewNames : Type 0 → Type 0
AsksFewNames End = (run : RunTree End) (all : AnswerMap) → AreFew (asked_names all run)

-- Maps that give the same answers to the names that a run asks give the same run.
abbrev pub DependsOnItsNames : Type 0 → Type 0
DependsOnItsNames End =
    (run : RunTree End) (one other : AnswerMap)
    → All (λ name. answer_in one name ≡ answer_in other name) (asked_names one run)
    → whole_run one run ≡ whole_run other run

-- the first name of the run that a map doesn't hold
abbrev pub first_missing_of : {End : Type 0} → AnswerMap → RunTree End → Option Name
first_missing_of answers run = first_missing (partly answers) (asked_names answers run)

-- Where a map holds each name of the run, the run against each larger map is the same. Where it lacks one first, each
-- larger map is asked the same names up to and including that one.
pub record IsExtended {End : Type 0} (run : RunTree End) (before after : AnswerMap) : Type 0 where
  pub same_run : first_missing_of before run ≡ None → whole_run after run ≡ whole_run before run
  pub same_names : (name : Name) → first_missing_of before run ≡ Some name
      → names_to name (asked_names after run) ≡ names_to name (asked_names before run)

abbrev pub ExtensionLaw : Type 0 → Type 0
ExtensionLaw End = (run : RunTree End) (before after : AnswerMap) → Extends after before → IsExtended run before after

-- ---- over a host

-- The run over the host is the whole run against this map: its end, its names, and its alerts as far as they are kept.
-- The host knew each name.
pub record IsWholeRun {End : Type 0}
    (run : RunTree End) (known : Knowledge) (end : End) (after : Seen) (all : AnswerMap) : Type 0 where
  pub end_is : (whole_run all run).end ≡ end
  pub asked_is : asked_names all run ≡ after.asked
  pub alerts_are : kept_alerts (whole_run all run).alerts ≡ after.alerts
  pub none_missing : first_missing known (asked_names all run) ≡ None

-- The name is the first of the whole run against this map that the host doesn't know, and the host was asked the names
-- of that run up to and including it.
pub record IsFirstMissing {End : Type 0}
    (run : RunTree End) (known : Knowledge) (name : Name) (after : Seen) (all : AnswerMap) : Type 0 where
  pub first_is : first_missing known (asked_names all run) ≡ Some name
  pub asked_is : names_to name (asked_names all run) ≡ after.asked

-- The steps of a run over a host: at its end, at an alert, and at a name, which is answered or lacking.
pub record WalksByStep (End : Type 0) : Type 0 where
  pub ended : (end : End) (seen : Seen) → walk (Done end) seen ≡ Ended end seen
  pub told : (text : List ℕ) (next : RunTree End) (seen : Seen)
      → walk (Tell text next) seen ≡ walk next (alerted seen text)
  pub answered : (name : Name) (next : Reply → RunTree End) (seen : Seen) (reply : Reply) (after : Seen)
      → looked_up seen name ≡ Replies reply after → walk (Ask name next) seen ≡ walk (next reply) after
  pub lacking : (name : Name) (next : Reply → RunTree End) (seen : Seen) (after : Seen)
      → looked_up seen name ≡ Lacks after → walk (Ask name next) seen ≡ Stopped name after

-- What is known stays. A run that comes to its end is the whole run against every map that completes what is known; one
-- that stops, stops at the first name that is missing from each of these.
abbrev pub Restarts : {End : Type 0} → RunTree End → Knowledge → Walked End → Type 0
Restarts run known (Ended end after) =
    (after.known ≡ known) × ((all : AnswerMap) → Completes all known → IsWholeRun run known end after all)
Restarts run known (Stopped name after) =
    (after.known ≡ known) × ((all : AnswerMap) → Completes all known → IsFirstMissing run known name after all)

abbrev pub RestartLaw : Type 0 → Type 0
RestartLaw End = (run : RunTree End) (known : Knowledge) → Restarts run known (walk run (fresh known))

-- Where each name outside the answers is known to have no address, no name is missing.
abbrev pub NothingIsMissing : Type 0
NothingIsMissing = (answers : AnswerMap) (names : List Name) → first_missing (wholly answers) names ≡ None
