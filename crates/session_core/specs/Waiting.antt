-- Who waits for which name.
use Rattle.std.specs.Prelude.{◌≡◌, ℕ, zero, suc, Bool, true, false, if◌then◌else◌, Option, Some, None, List, [], ◌∷◌, map, length, nat_eq, set, get_or}
use Rattle.std.specs.List.{list_any}
use Rattle.std.specs.Option.{option_map_or}
use Rattle.std.specs.Ordering.{is_eq, nat_cmp}
use Rattle.std.specs.BTreeMap.{get}
use Rattle.std.specs.BTreeSet.{BTreeSet, contains}
use Rattle.pac_names.specs.Names.{Name}
use Rattle.pac_names.specs.Comparing.{compare_names, same_name}
use Rattle.run_trees.specs.RunTree.{RunTree}
use Rattle.pac_ports.specs.Dice.{DiceTold}
use Rattle.poll_log.specs.declared.question.Question.{Question}
use Rattle.session_core.specs.declared.lookups.Lookups.{Lookups}
use Rattle.session_core.specs.declared.roster.Roster.{Roster}
use Rattle.session_core.specs.declared.session.Progress.{Progress}
use Rattle.session_core.specs.declared.session.Progress.TheVariants.{Waiting, Finished, Unanswered}
use Rattle.session_core.specs.declared.session.Session.{Session}
use Rattle.session_core.specs.declared.waiting.Waiting.{Waiting as Waiters}
use Rattle.session_core.specs.Sessions.{waits_for}
use Rattle.session_core.specs.Cascade.{RunsAgain}

-- whether a map of places has a place under a name
abbrev pub waits_in : Waiters → Name → ℕ → Bool
waits_in waiting name place = option_map_or (λ places. contains nat_cmp places place) (get compare_names waiting.places name) false

-- whether a list of places has one
abbrev pub has : List ℕ → ℕ → Bool
has places place = list_any (λ k. is_eq (nat_cmp place k)) places

-- the same of the places under a name, if it has some
abbrev pub taken : Option (BTreeSet ℕ) → ℕ → Bool
taken places place = option_map_or (λ some. contains nat_cmp some place) places false

-- a name without places
abbrev pub is_vain : Option (BTreeSet ℕ) → Bool
is_vain None = false
is_vain (Some places) = nat_eq (length places.keys) 0

-- each name that a map has is waited for
abbrev pub AreFilled : Waiters → Type 0
AreFilled waiting = (name : Name) → is_vain (get compare_names waiting.places name) ≡ false

-- whether the session at a place waits for a name
abbrev pub waits_at : {R Out : Type 0} → Name → List (Session R Out) → ℕ → Bool
waits_at name [] place = false
waits_at name (s ∷ sessions) zero = waits_for name s.progress
waits_at name (s ∷ sessions) (suc place) = waits_at name sessions place

-- The map has exactly the places of the sessions that wait for each name, and no other name.
pub record IsKept {R Out : Type 0} (roster : Roster R Out) : Type 0 where
  pub waits : (name : Name) (place : ℕ) → waits_in roster.waiting name place ≡ waits_at name roster.all.items place
  pub filled : AreFilled roster.waiting

-- ---- a name is told

-- The session at this place ran again; the others are as they were.
pub record RunsAt {R Out End : Type 0} (gives : Out → End → List (List ℕ) → Type 0) (tree : R → RunTree End) (place : ℕ) (sessions sessions' : List (Session R Out)) (lookups lookups' : Lookups) (dice dice' : Option DiceTold) (asked : List Question) : Type 0 where
  pub before : Session R Out
  pub after : Session R Out
  pub was : (d : Session R Out) → get_or sessions place d ≡ before
  pub becomes : sessions' ≡ set sessions place after
  pub ran : RunsAgain gives tree true before after lookups lookups' dice dice' asked

-- ---- a name dies

abbrev pub ended_if : {Out : Type 0} → Bool → Name → Progress Out
ended_if true name = Unanswered name
ended_if false name = Waiting name

-- what waits for the name is unanswered
abbrev pub ended : {Out : Type 0} → Name → Progress Out → Progress Out
ended name (Waiting other) = ended_if (same_name other name) other
ended name (Finished out) = Finished out
ended name (Unanswered other) = Unanswered other

abbrev pub ended_by : {R Out : Type 0} → Name → Session R Out → Session R Out
ended_by name s = record s { progress = ended name s.progress }

-- the sessions that wait for any of these names are unanswered
abbrev pub ended_all : {R Out : Type 0} → List Name → List (Session R Out) → List (Session R Out)
ended_all [] sessions = sessions
ended_all (name ∷ names) sessions = ended_all names (map (ended_by name) sessions)

-- a session that is unanswered, where it is to be
abbrev pub ended_where : {R Out : Type 0} → Bool → Name → Session R Out → Session R Out
ended_where here name s = if here then record s { progress = Unanswered name } else s
