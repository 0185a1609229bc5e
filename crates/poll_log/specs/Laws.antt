-- The laws of a log, for any jobs that obey the extension law.
use Rattle.std.specs.Prelude.{◌≡◌, ℕ, ◌+◌, ◌*◌, ◌<◌, ◌≤◌, true, false, Option, Some, None, IsSome, List, [], ◌∷◌, ◌++◌, length, if◌then◌else◌}
use Rattle.std.specs.List.{All}
use Rattle.pac_names.specs.declared.answer.Answer.{Answer}
use Rattle.pac_names.specs.Names.{Name}
use Rattle.pac_ports.specs.declared.link.Move.{Move}
use Rattle.poll_log.specs.declared.terms.TheConstants.{FLOOD}
use Rattle.poll_log.specs.declared.question.Question.{Question}
use Rattle.poll_log.specs.declared.terms.Terms.{Terms}
use Rattle.poll_log.specs.Sendings.{limit}
use Rattle.poll_log.specs.Turns.{Turns, turns_of}
use Rattle.poll_log.specs.Beats.{beats, events}
use Rattle.poll_log.specs.Questions.{IsQuestion, octets_of, asked_by, questions, was_sent, times}
use Rattle.poll_log.specs.Told.{Map, age, beats_before_birth, told, IsDead, due_sends}
use Rattle.poll_log.specs.Jobs.{Job, IsFinished, IsUnanswered, runs_of, some_wait, SendsOwed, WaitsBefore}

-- the larger map holds each answer of the smaller one
abbrev pub Extends : Map → Map → Type 0
Extends larger smaller = (n : Name) (x : Answer) → smaller n ≡ Some x → larger n ≡ Some x

-- The extension law, as far as it speaks of the first name that a job lacks: its run goes by the answers to the names that
-- it asks, in their order, and asks so many at most.
pub record IsRestartable (most : ℕ) (job : Job) : Type 0 where
  -- how many names its run asks before the first one that it lacks
  pub depth : Map → ℕ
  -- what it lacks is not held
  pub lacks : (map : Map) (n : Name) → job map ≡ Some n → map n ≡ None
  -- it lacks the same name until that one is held
  pub waits : (larger smaller : Map) (n : Name) → Extends larger smaller → job smaller ≡ Some n → larger n ≡ None → job larger ≡ Some n
  -- where it lacks none it never does
  pub done : (larger smaller : Map) → Extends larger smaller → job smaller ≡ None → job larger ≡ None
  -- more answers never make it ask less, and the answer to the name that it lacks makes it ask more
  pub grows : (larger smaller : Map) → Extends larger smaller → depth smaller ≤ depth larger
  pub deeper : (larger smaller : Map) (n : Name) (x : Answer) → Extends larger smaller → job smaller ≡ Some n → larger n ≡ Some x → depth smaller + 1 ≤ depth larger
  pub within : (map : Map) → depth map ≤ most
  pub before : (map : Map) (n : Name) → job map ≡ Some n → depth map + 1 ≤ most

abbrev pub lacking_or : Name → Option Answer → Option Name → Option Name
lacking_or n None rest = Some n
lacking_or n (Some answer) rest = rest

-- the first of the names that a map doesn't hold
abbrev pub first_lacking : List Name → Map → Option Name
first_lacking [] map = None
first_lacking (n ∷ ns) map = lacking_or n (map n) (first_lacking ns map)

abbrev pub only_behind : Option Answer → List Name → List Name
only_behind None rest = []
only_behind (Some answer) rest = rest

-- the names up to that one, it included
abbrev pub up_to_lacking : List Name → Map → List Name
up_to_lacking [] map = []
up_to_lacking (n ∷ ns) map = n ∷ only_behind (map n) (up_to_lacking ns map)

-- The extension law of a run, by the names that it asks against a map, in order: more answers leave a run that lacks none,
-- and else the names that it asks up to the first that it lacks.
pub record AsksInOrder (most : ℕ) (asked : Map → List Name) : Type 0 where
  pub done : (larger smaller : Map) → Extends larger smaller → first_lacking (asked smaller) smaller ≡ None → asked larger ≡ asked smaller
  pub agrees : (larger smaller : Map) (n : Name) → Extends larger smaller → first_lacking (asked smaller) smaller ≡ Some n
      → (rest : List Name) × (asked larger ≡ up_to_lacking (asked smaller) smaller ++ rest)
  pub within : (map : Map) → length (asked map) ≤ most

-- so it is restartable, and its depth is at most the number of names that it asks
pub record IsRestartableBy (most : ℕ) (asked : Map → List Name) : Type 0 where
  pub law : IsRestartable most (λ map. first_lacking (asked map) map)
  pub depth : (map : Map) → law.depth map ≤ length (asked map)

abbrev pub RunsAreRestartable : Type 0
RunsAreRestartable = (most : ℕ) (asked : Map → List Name) → AsksInOrder most asked → IsRestartableBy most asked

-- the octets of a question are read as that question
abbrev pub QuestionsAreRead : Type 0
QuestionsAreRead = (q : Question) → IsQuestion q → asked_by (octets_of q) ≡ Some q

-- what was not sent is not told
abbrev pub ToldWasSent : Type 0
ToldWasSent = (terms : Terms) (turns : Turns) (n : Name) → IsSome (told terms turns n) → was_sent turns n ≡ true

-- the age of a name that was sent is the number of beats from its birth turn on
abbrev pub AgeIsSinceBirth : Type 0
AgeIsSinceBirth = (turns : Turns) (n : Name) → was_sent turns n ≡ true → beats_before_birth turns n + age turns n ≡ beats turns

-- told answers only grow: in a longer log each stands as it was
abbrev pub ToldGrows : Type 0
ToldGrows = (terms : Terms) (moves more : List Move) → Extends (told terms (turns_of (moves ++ more))) (told terms (turns_of moves))

-- a dead name stays dead
abbrev pub DeadStays : Type 0
DeadStays = (terms : Terms) (moves more : List Move) (n : Name) → IsDead terms (turns_of moves) n → IsDead terms (turns_of (moves ++ more)) n

-- a finished job stays finished
abbrev pub FinishedStays : Type 0
FinishedStays =
    (most : ℕ) (terms : Terms) (moves more : List Move) (job : Job) → IsRestartable most job
    → IsFinished terms (turns_of moves) job → IsFinished terms (turns_of (moves ++ more)) job

-- an unanswered job stays so, with its name
abbrev pub UnansweredStays : Type 0
UnansweredStays =
    (most : ℕ) (terms : Terms) (moves more : List Move) (job : Job) (n : Name) → IsRestartable most job
    → IsUnanswered terms (turns_of moves) job n → IsUnanswered terms (turns_of (moves ++ more)) job n

-- all that was sent is told
abbrev pub IsAllTold : Terms → Turns → Type 0
IsAllTold terms turns = (n : Name) → was_sent turns n ≡ true → IsSome (told terms turns n)

-- where no job waits and all that was sent is told, each job is finished: none is unanswered
abbrev pub AllToldFinishes : Type 0
AllToldFinishes =
    (terms : Terms) (jobs : List Job) (turns : Turns) → some_wait terms jobs turns ≡ false → IsAllTold terms turns
    → All (IsFinished terms turns) jobs

-- a job costs at most one run more than the names that it asked before the first one that it lacks
abbrev pub RunBound : Type 0
RunBound =
    (most : ℕ) (terms : Terms) (turns : Turns) (job : Job) (law : IsRestartable most job)
    → (runs_of terms turns job ≤ law.depth (told terms turns) + 1) × (runs_of terms turns job ≤ most + 1)

-- where what is owed was sent, each name was sent exactly as often as it is due
abbrev pub SentAsDue : Type 0
SentAsDue =
    (terms : Terms) (jobs : List Job) (turns : Turns) → 0 < terms.wait → 0 < terms.tries → SendsOwed terms jobs turns
    → (n : Name) → times (questions turns) n ≡ (if was_sent turns n then due_sends terms turns n else 0)

-- A log has an end.
pub record IsBounded (most : ℕ) (terms : Terms) (jobs : List Job) (turns : Turns) : Type 0 where
  pub few_beats : beats turns ≤ most * limit terms
  pub few_events : events turns ≤ FLOOD * (most * limit terms)
  -- while some job waits there are fewer
  pub waiting : some_wait terms jobs turns ≡ true → events turns < FLOOD * (most * limit terms)

-- where what is owed was sent, and some job waited before each event, the beats and the events have a bound
abbrev pub BeatBound : Type 0
BeatBound =
    (most : ℕ) (terms : Terms) (jobs : List Job) (turns : Turns) → All (IsRestartable most) jobs → SendsOwed terms jobs turns → WaitsBefore terms jobs turns
    → IsBounded most terms jobs turns
