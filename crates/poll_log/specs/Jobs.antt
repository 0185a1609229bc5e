-- What has become of jobs that wait for names, what they have cost, and which sends they are owed.
use Rattle.std.specs.Prelude.{◌≡◌, ℕ, ◌+◌, Bool, true, false, not, nat_lt, if◌then◌else◌, Option, Some, None, is_some, List, [], ◌∷◌, ◌++◌}
use Rattle.std.specs.List.{All, filter, filter_map, list_any}
use Rattle.pac_names.specs.Comparing.{same_name}
use Rattle.pac_names.specs.Names.{Name}
use Rattle.poll_log.specs.declared.question.Question.{Question}
use Rattle.poll_log.specs.declared.terms.Terms.{Terms}
use Rattle.poll_log.specs.Turns.{Outgoing, Turns, Begin, Then, with_sent}
use Rattle.poll_log.specs.Questions.{IsQuestion, outgoing_from, questions, firsts, names_of, times}
use Rattle.poll_log.specs.Told.{Map, told, is_dead, due_sends}

-- A job is known by the first name that its run asks and the answers don't hold, where there is one.
abbrev pub Job : Type 0
Job = Map → Option Name

abbrev pub waits_unless : (Name → Bool) → Option Name → Bool
waits_unless dead None = false
waits_unless dead (Some n) = not (dead n)

-- whether the job's first untold name is not dead
abbrev pub is_waiting : Terms → Turns → Job → Bool
is_waiting terms turns job = waits_unless (is_dead terms turns) (job (told terms turns))

-- the job waits for the name: it is the first untold one, and is not dead
pub record WaitsFor (terms : Terms) (turns : Turns) (job : Job) (n : Name) : Type 0 where
  pub first : job (told terms turns) ≡ Some n
  pub alive : is_dead terms turns n ≡ false

-- the job's first untold name is dead
pub record IsUnanswered (terms : Terms) (turns : Turns) (job : Job) (n : Name) : Type 0 where
  pub first : job (told terms turns) ≡ Some n
  pub dead : is_dead terms turns n ≡ true

-- all that the job's run asks is told
abbrev pub IsFinished : Terms → Turns → Job → Type 0
IsFinished terms turns job = job (told terms turns) ≡ None

-- one where the name is told
abbrev pub told_to : Option Name → Map → ℕ
told_to None answers = 0
told_to (Some n) answers = if is_some (answers n) then 1 else 0

-- the first run, and one more for each wait that was told
unfoldable pub runs_of : Terms → Turns → Job → ℕ
runs_of terms (Begin sent) job = 1
runs_of terms (Then before event sent) job =
    runs_of terms before job + told_to (job (told terms before)) (told terms (Then before event sent))

-- the first untold names of the jobs, in the order of the jobs
abbrev pub wanted : List Job → Map → List Name
wanted jobs answers = filter_map (λ job. job answers) jobs

abbrev pub onto_new : Bool → Name → List Name → List Name → List Name
onto_new true n left behind = left
onto_new false n left behind = n ∷ behind

-- these names, each once, without those that were seen
unfoldable pub once : List Name → List Name → List Name
once seen [] = []
once seen (n ∷ ns) = onto_new (list_any (λ m. same_name m n) seen) n (once seen ns) (once (seen ++ n ∷ []) ns)

-- What is owed in a turn, where in earlier turns these questions were sent, and these first for their names.
pub record IsOwed (terms : Terms) (jobs : List Job) (earlier before : List Question) (turns : Turns) (sent : List Outgoing) : Type 0 where
  pub fresh : List Question
  pub again : List Question
  -- the first untold names of the jobs, each once, without those that were sent in an earlier turn
  pub asks : names_of fresh ≡ once (names_of before) (wanted jobs (told terms turns))
  pub proper : All IsQuestion fresh
  -- then each name, in the order of first sending, that was sent fewer times by now than it is due
  pub repeats : again ≡ filter (λ q. nat_lt (times (earlier ++ fresh) q.name) (due_sends terms turns q.name)) (before ++ fresh)
  -- each goes to the server whose turn it is
  pub out : sent ≡ outgoing_from earlier (fresh ++ again)

-- in each turn what is owed was sent, and nothing else
abbrev pub SendsOwed : Terms → List Job → Turns → Type 0
SendsOwed terms jobs (Begin sent) = IsOwed terms jobs [] [] (Begin sent) sent
SendsOwed terms jobs (Then before event sent) =
    SendsOwed terms jobs before × IsOwed terms jobs (questions before) (firsts before) (Then before event sent) sent

abbrev pub some_wait : Terms → List Job → Turns → Bool
some_wait terms jobs turns = list_any (is_waiting terms turns) jobs

-- some job waits before each event
abbrev pub WaitsBefore : Terms → List Job → Turns → Type 0
WaitsBefore terms jobs (Begin sent) = Unit {0}
WaitsBefore terms jobs (Then before event sent) = WaitsBefore terms jobs before × (some_wait terms jobs before ≡ true)

-- A polled log: what is owed was sent, and the events end as soon as no job waits.
pub record IsPolled (terms : Terms) (jobs : List Job) (turns : Turns) : Type 0 where
  pub sends : SendsOwed terms jobs turns
  pub waits : WaitsBefore terms jobs turns
  pub ended : some_wait terms jobs turns ≡ false

-- A log cut short: the last turn may lack the last of the sends that are owed, and a job may still wait.
pub record IsCut (terms : Terms) (jobs : List Job) (turns : Turns) : Type 0 where
  pub unsent : List Outgoing
  pub sends : SendsOwed terms jobs (with_sent turns unsent)
  pub waits : WaitsBefore terms jobs turns
