-- What a log that is answered from a map tells: the answers of the map, and so the runs against it. Where names are few each
-- question has its reply. None goes over a stream.
use Rattle.std.specs.Prelude.{◌≡◌, ℕ, ◌*◌, ◌<◌, ◌≤◌, ◌^◌, List, [], ◌∷◌, ◌++◌, length, map, Option, Some, None, true}
use Rattle.std.specs.List.{All}
use Rattle.std.specs.FinMap as map
use Rattle.pac_names.specs.declared.answer.Answer.{Answer}
use Rattle.pac_names.specs.declared.answer.Answer.TheVariants.{Address, Address6, NoAddress}
use Rattle.pac_names.specs.declared.kind.NameKind.{NameKind}
use Rattle.pac_names.specs.declared.kind.NameKind.TheVariants.{V4, V6}
use Rattle.pac_names.specs.declared.limits.TheConstants.{MOST_NAMES}
use Rattle.batch_text.specs.declared.batch.TheConstants.{MOST_URLS}
use Rattle.pac_names.specs.Names.{Name}
use Rattle.js_host.specs.Answers.{AnswerMap, answer_in}
use Rattle.pac_ports.specs.declared.link.Move.{Move}
use Rattle.run_trees.specs.RunTree.{RunTree}
use Rattle.run_trees.specs.WholeRun.{whole_run}
use Rattle.poll_log.specs.declared.question.Question.{Question}
use Rattle.poll_log.specs.declared.terms.Terms.{Terms}
use Rattle.poll_log.specs.declared.terms.TheConstants.{FLOOD}
use Rattle.poll_log.specs.Turns.{Turns, Begin, Then, Event, Given, turns_of, with_moves}
use Rattle.poll_log.specs.Questions.{firsts, questions}
use Rattle.poll_log.specs.Told.{told}
use Rattle.poll_log.specs.Jobs.{IsCut, IsFinished, IsPolled, Job, some_wait}
use Rattle.poll_log.specs.Laws.{IsAllTold, IsRestartable}
use Rattle.poll_log.specs.Rounds.{Rounds, Opening, Round, turns_in}
use Rattle.poll_log.specs.Streamed.{AreFramed, IsStreamed, framed}
use Rattle.poll_loop.specs.Task.{IsSound, Task}
use Rattle.session_log.specs.Asked.{job_of}
use Rattle.session_log.specs.Sessions.{IsWhole, all_runs}
use Rattle.pac_generate.specs.Answered.{IsAnswered, reply_from}
use Rattle.pac_generate.specs.Names.{site_map}
use Rattle.pac_generate.specs.declared.limits.TheConstants.{MOST_MOVES, MOST_QUESTIONS}
use Rattle.memory_talk.specs.Talks.{IsMemoryLog}

-- an address has the family that is asked for, and its bits: 32 of IPv4, 128 of IPv6
abbrev pub IsAddressOf : Answer → NameKind → Type 0
IsAddressOf (Address address) V4 = address < 2 ^ 32
IsAddressOf (Address address) V6 = ⊥
IsAddressOf (Address6 address) V4 = ⊥
IsAddressOf (Address6 address) V6 = address < 2 ^ 128
IsAddressOf NoAddress kind = Unit {0}

-- each address of the map is one of its name's family
abbrev pub AreAddresses : AnswerMap → Type 0
AreAddresses answers = (name : Name) (answer : Answer) → map.get answers name ≡ Some answer → IsAddressOf answer name.kind

-- what is told of a name is the map's answer to it
abbrev pub ToldIsTheMaps : Type 0
ToldIsTheMaps =
    (answers : AnswerMap) (terms : Terms) (turns : Turns) → AreAddresses answers → IsAnswered answers turns
    → (name : Name) (answer : Answer) → told terms turns name ≡ Some answer → answer_in answers name ≡ answer

-- the whole run of a finished job is the one against the map
abbrev pub AgreesWithTheMap : Type 0 → Type 0
AgreesWithTheMap End =
    (answers : AnswerMap) (terms : Terms) (turns : Turns) (run : RunTree End) → AreAddresses answers → IsAnswered answers turns
    → IsFinished terms turns (job_of run) → IsWhole run (told terms turns) (whole_run answers run)

-- the answers for generated sites are such a map
abbrev pub SitesHaveAddresses : Type 0
SitesHaveAddresses = (seed sites : ℕ) → AreAddresses (site_map seed sites)

-- A whole log of jobs that is answered from a map, and whose first sends carry 0, 1, 2 and so on.
pub record IsLogOf (answers : AnswerMap) (terms : Terms) (jobs : List Job) (turns : Turns) : Type 0 where
  pub polled : IsPolled terms jobs turns
  pub in_memory : IsMemoryLog answers turns

-- there is at most one
abbrev pub OneLog : Type 0
OneLog =
    (answers : AnswerMap) (terms : Terms) (jobs : List Job) (one other : Turns) → 0 < terms.wait → 0 < terms.tries
    → IsLogOf answers terms jobs one → IsLogOf answers terms jobs other → one ≡ other

-- and there is one, where what is polled for is sound
abbrev pub LogIsThere : Type 0
LogIsThere =
    (answers : AnswerMap) (task : Task) → IsSound task
    → (log : List Move) × IsLogOf answers task.terms task.jobs (turns_of log)

-- Such a log that is cut short.
pub record IsCutLogOf (answers : AnswerMap) (terms : Terms) (jobs : List Job) (turns : Turns) : Type 0 where
  pub cut : IsCut terms jobs turns
  pub in_memory : IsMemoryLog answers turns

-- it is a front of the whole one, which is the same with some moves more
abbrev pub CutIsFront : Type 0
CutIsFront =
    (answers : AnswerMap) (terms : Terms) (jobs : List Job) (cut log : Turns) → 0 < terms.wait → 0 < terms.tries
    → IsCutLogOf answers terms jobs cut → IsLogOf answers terms jobs log
    → (rest : List Move) × (log ≡ with_moves cut rest)

-- ---- no question goes over a stream

-- no reply is truncated, so no frame is ever due
abbrev pub NoFrameIsDue : Type 0
NoFrameIsDue = (answers : AnswerMap) (terms : Terms) (rounds : Rounds) → IsAnswered answers (turns_in rounds) → framed terms rounds ≡ []

-- nothing was sent over a stream in these rounds
unfoldable pub AreUnframed : Rounds → Type 0
AreUnframed (Opening sent) = Unit {0}
AreUnframed (Round before arrival sent framing) = AreUnframed before × (framing ≡ None)

-- so where each due frame and no other is sent, none is sent, and none is owed
abbrev pub NoFrameIsSent : Type 0
NoFrameIsSent =
    (answers : AnswerMap) (terms : Terms) (owed : Option Question) (rounds : Rounds) → IsAnswered answers (turns_in rounds)
    → AreFramed terms owed rounds → AreUnframed rounds × (owed ≡ None)

-- ---- each question has its reply

-- the events of a log, in order
unfoldable pub events_of : Turns → List Event
events_of (Begin sent) = []
events_of (Then before event sent) = events_of before ++ event ∷ []

-- the reply to a question is given
abbrev pub reply_event : AnswerMap → Question → Event
reply_event answers q = Given (reply_from answers q)

-- Jobs that obey the extension law with so many names each. Together these are no more than are answered, and the replies
-- to so many make fewer beats than pass before a name is sent again.
pub record AskFew (most : ℕ) (terms : Terms) (jobs : List Job) : Type 0 where
  pub restartable : All (IsRestartable most) jobs
  pub answered : most * length jobs ≤ MOST_QUESTIONS
  pub early : most * length jobs < FLOOD * terms.wait
  pub tried : 0 < terms.tries

-- Each question of a log has its reply.
pub record AreReplied (answers : AnswerMap) (terms : Terms) (jobs : List Job) (turns : Turns) : Type 0 where
  -- the t-th event is the reply to the t-th question, and there is no other event: no tick stands in the log
  pub replies : events_of turns ≡ map (reply_event answers) (questions turns)
  -- no name is sent twice
  pub once : questions turns ≡ firsts turns
  -- each name that was sent is told, so none is dead
  pub all_told : IsAllTold terms turns
  -- and no job is unanswered
  pub finished : All (IsFinished terms turns) jobs

-- so it is in each polled log that is answered from the map
abbrev pub QuestionsAreReplied : Type 0
QuestionsAreReplied =
    (most : ℕ) (answers : AnswerMap) (terms : Terms) (jobs : List Job) (turns : Turns) → AreAddresses answers → AskFew most terms jobs
    → IsPolled terms jobs turns → IsAnswered answers turns → AreReplied answers terms jobs turns

-- Jobs that are sound as the core's are, as many as a batch has URLs at most, ask few names, where a name waits three beats
-- or more.
abbrev pub SoundJobsAskFew : Type 0
SoundJobsAskFew =
    (task : Task) → IsSound task → length task.jobs ≤ MOST_URLS → 2 < task.terms.wait
    → AskFew MOST_NAMES task.terms task.jobs

-- the link has room for one move more while some job waits, wherever a streamed log is cut short
abbrev pub LinkHasRoom : Type 0
LinkHasRoom =
    (most : ℕ) (answers : AnswerMap) (terms : Terms) (jobs : List Job) (owed : Option Question) (log : List Move) → AreAddresses answers
    → AskFew most terms jobs → IsStreamed terms owed log → IsCut terms jobs (turns_of log) → IsAnswered answers (turns_of log)
    → some_wait terms jobs (turns_of log) ≡ true → length log < MOST_MOVES

-- A log that is cut short costs no more runs than a whole one, where both are answered from the map and jobs ask few names,
-- whatever numbers their questions carry.
abbrev pub CutCostsNoMore : Type 0
CutCostsNoMore =
    (most : ℕ) (answers : AnswerMap) (terms : Terms) (jobs : List Job) (cut log : Turns) → AreAddresses answers → AskFew most terms jobs
    → IsCut terms jobs cut → IsAnswered answers cut → IsPolled terms jobs log → IsAnswered answers log
    → all_runs terms jobs cut ≤ all_runs terms jobs log
