-- What has become of sessions.
use Rattle.std.specs.Prelude.{◌≡◌, ℕ, ◌+◌, ◌-◌, ◌^◌, Bool, true, false, min, Option, Some, None, List, [], ◌∷◌}
use Rattle.pac_names.specs.Names.{Name}
use Rattle.pac_names.specs.Comparing.{same_name}
use Rattle.js_host.specs.Answers.{AnswerMap}
use Rattle.js_host.specs.Seen.{kept_alerts}
use Rattle.run_trees.specs.RunTree.{RunTree}
use Rattle.run_trees.specs.WholeRun.{whole_run}
use Rattle.poll_log.specs.Told.{Map}
use Rattle.stub_poller.specs.State.{StubState, is_dead_in}
use Rattle.session_log.specs.Asked.{job_of}
use Rattle.session_log.specs.Sessions.{Holds}
use Rattle.session_core.specs.declared.session.Progress.{Progress}
use Rattle.session_core.specs.declared.session.Progress.TheVariants.{Waiting, Finished, Unanswered}
use Rattle.session_core.specs.declared.session.Session.{Session}

-- This is the outcome of the uninterrupted run against every finite map that holds these answers.
abbrev pub IsOutcome : {Out End : Type 0} → (Out → End → List (List ℕ) → Type 0) → RunTree End → Map → Out → Type 0
IsOutcome gives run answers out =
    (all : AnswerMap) → Holds all answers → gives out (whole_run all run).end (kept_alerts (whole_run all run).alerts)

-- What has become of a run, by these answers and by who is dead.
abbrev pub IsPlaced : {Out End : Type 0} → (Out → End → List (List ℕ) → Type 0) → RunTree End → Map → (Name → Bool) → Progress Out → Type 0
IsPlaced gives run answers dead (Waiting name) = (job_of run answers ≡ Some name) × (dead name ≡ false)
IsPlaced gives run answers dead (Finished out) = (job_of run answers ≡ None) × IsOutcome gives run answers out
IsPlaced gives run answers dead (Unanswered name) = (job_of run answers ≡ Some name) × (dead name ≡ true)

-- who is dead for a stub
abbrev pub dead_of : StubState → Name → Bool
dead_of stub name = is_dead_in name stub

-- ---- waiting

abbrev pub is_waiting : {Out : Type 0} → Progress Out → Bool
is_waiting (Waiting name) = true
is_waiting (Finished out) = false
is_waiting (Unanswered name) = false

abbrev pub waits_for : {Out : Type 0} → Name → Progress Out → Bool
waits_for name (Waiting other) = same_name other name
waits_for name (Finished out) = false
waits_for name (Unanswered other) = false

-- whether it waits for the name that was told, if one was
abbrev pub is_woken : {Out : Type 0} → Option Name → Progress Out → Bool
is_woken None progress = false
is_woken (Some name) progress = waits_for name progress

abbrev pub one_if : Bool → ℕ
one_if true = 1
one_if false = 0

-- how many sessions wait for that name
abbrev pub count_woken : {R Out : Type 0} → Option Name → List (Session R Out) → ℕ
count_woken told [] = 0
count_woken told (s ∷ sessions) = one_if (is_woken told s.progress) + count_woken told sessions

-- one run more; the count stays at its last number
abbrev pub one_run_more : ℕ → ℕ
one_run_more runs = min (runs + 1) (2 ^ 64 - 1)

-- ---- deaths

abbrev pub if_dead : Name → Bool → Option Name
if_dead name true = Some name
if_dead name false = None

-- the dead name that it waits for, if it waits for one
abbrev pub died_with : {Out : Type 0} → StubState → Progress Out → Option Name
died_with stub (Waiting name) = if_dead name (is_dead_in name stub)
died_with stub (Finished out) = None
died_with stub (Unanswered name) = None

abbrev pub unanswered_by : {Out : Type 0} → Option Name → Progress Out → Progress Out
unanswered_by None progress = progress
unanswered_by (Some name) progress = Unanswered name

-- a session that waits for a dead name is unanswered
abbrev pub buried : {R Out : Type 0} → StubState → Session R Out → Session R Out
buried stub s = record s { progress = unanswered_by (died_with stub s.progress) s.progress }
