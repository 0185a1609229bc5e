-- What an answer does to sessions.
use Rattle.std.specs.Prelude.{◌≡◌, ℕ, ◌<◌, ◌≤◌, Bool, true, false, if◌then◌else◌, Option, None, List, length, get_or, take}
use Rattle.std.specs.FinMap as map
use Rattle.std.specs.List.{All, filter_map}
use Rattle.pac_names.specs.Names.{Name}
use Rattle.run_trees.specs.RunTree.{RunTree}
use Rattle.pac_ports.specs.Dice.{DiceTold}
use Rattle.poll_log.specs.declared.question.Question.{Question}
use Rattle.poll_log.specs.Questions.{IsQuestion, names_of}
use Rattle.poll_log.specs.Told.{Map}
use Rattle.poll_log.specs.Jobs.{once}
use Rattle.poll_log.proofs.Names.{has}
use Rattle.stub_poller.specs.State.{StubState}
use Rattle.poll_loop.specs.Numbers.{GaveAll}
use Rattle.session_log.specs.Asked.{job_of}
use Rattle.session_core.specs.declared.lookups.Lookups.{Lookups}
use Rattle.session_core.specs.declared.session.Session.{Session}
use Rattle.session_core.specs.Lookups.{with_asked}
use Rattle.session_core.specs.Sessions.{IsPlaced, dead_of, is_woken, one_run_more}
use Rattle.session_core.specs.Settling.{Asks, asked_of, knows, numbers_of}

-- ---- one session

-- A session after a name was told: it ran again where it was woken, and else is as it was.
pub record IsNext {R Out End : Type 0} (gives : Out → End → List (List ℕ) → Type 0) (tree : R → RunTree End) (woken : Bool) (answers : Map) (dead : Name → Bool) (s s' : Session R Out) : Type 0 where
  pub run : s'.run ≡ s.run
  pub runs : s'.runs ≡ (if woken then one_run_more s.runs else s.runs)
  pub again : woken ≡ true → IsPlaced gives (tree s.run) answers dead s'.progress
  pub kept : woken ≡ false → s'.progress ≡ s.progress

-- the name that a session misses which was woken
abbrev pub missed_if : Bool → Option Name → Option Name
missed_if woken missed = if woken then missed else None

pub record RunsAgain {R Out End : Type 0} (gives : Out → End → List (List ℕ) → Type 0) (tree : R → RunTree End) (woken : Bool) (s s' : Session R Out) (lookups lookups' : Lookups) (dice dice' : Option DiceTold) (asked : List Question) : Type 0 where
  pub next : IsNext gives tree woken (map.get lookups.table) (dead_of lookups.stub) s s'
  pub asks : Asks (asked_of lookups.stub (missed_if woken (job_of (tree s.run) (map.get lookups.table)))) dice dice' asked
  pub lookups_are : lookups' ≡ with_asked asked lookups

-- ---- all sessions

-- the names that the sessions miss which were woken, in the order of the sessions
abbrev pub missed_names : {R Out End : Type 0} → (R → RunTree End) → Option Name → Map → List (Session R Out) → List Name
missed_names tree told answers sessions = filter_map (λ s. missed_if (is_woken told s.progress) (job_of (tree s.run) answers)) sessions

-- among the names that are not answered, a stub knows these
abbrev pub KnowsThese : StubState → Map → List Name → Type 0
KnowsThese stub answers seen = (n : Name) → answers n ≡ None → knows stub n ≡ has n seen

-- The first sessions, so many, are next, and the others as they were; what the first ones miss was asked, each name once.
pub record CascadesTo {R Out End : Type 0} (gives : Out → End → List (List ℕ) → Type 0) (tree : R → RunTree End) (told : Option Name) (sessions sessions' : List (Session R Out)) (lookups lookups' : Lookups) (dice dice' : Option DiceTold) (asked : List Question) (count : ℕ) : Type 0 where
  pub long : length sessions' ≡ length sessions
  pub next : (k : ℕ) (d : Session R Out) → k < count → IsNext gives tree (is_woken told (get_or sessions k d).progress) (map.get lookups.table) (dead_of lookups.stub) (get_or sessions k d) (get_or sessions' k d)
  pub rest : (k : ℕ) (d : Session R Out) → count ≤ k → get_or sessions' k d ≡ get_or sessions k d
  pub asks : (seen : List Name) → KnowsThese lookups.stub (map.get lookups.table) seen → names_of asked ≡ once seen (missed_names tree told (map.get lookups.table) (take count sessions))
  pub proper : All IsQuestion asked
  pub drew : GaveAll dice (numbers_of asked) dice'
  pub lookups_are : lookups' ≡ with_asked asked lookups

abbrev pub Cascades : {R Out End : Type 0} → (Out → End → List (List ℕ) → Type 0) → (R → RunTree End) → Option Name → List (Session R Out) → List (Session R Out) → Lookups → Lookups → Option DiceTold → Option DiceTold → List Question → Type 0
Cascades gives tree told sessions sessions' lookups lookups' dice dice' asked = CascadesTo gives tree told sessions sessions' lookups lookups' dice dice' asked (length sessions)
