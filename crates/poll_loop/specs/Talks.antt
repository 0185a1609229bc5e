-- What a talk does to the outside: its log is polled, or cut short at a fault or for want of memory; and which frames
-- went over the stream.
use Rattle.std.specs.Prelude.{◌≡◌, ◌⊎◌, ℕ, ◌+◌, ◌*◌, ◌≤◌, true, false, List, [], ◌∷◌, ◌++◌, Option, None, IsSome}
use Rattle.pac_names.specs.declared.limits.TheConstants.{MOST_NAMES}
use Rattle.pac_ports.specs.Link.{LinkState, LinkFails, has_move, with_moves, with_open}
use Rattle.pac_ports.specs.declared.link.Move.{Move}
use Rattle.pac_ports.specs.declared.link.Servers.{Servers}
use Rattle.poll_log.specs.declared.terms.TheConstants.{FLOOD}
use Rattle.poll_log.specs.declared.question.Question.{Question}
use Rattle.poll_log.specs.declared.terms.Terms.{Terms}
use Rattle.poll_log.specs.Turns.{turns_of, with_sent}
use Rattle.poll_log.specs.Beats.{events}
use Rattle.poll_log.specs.Questions.{drawn}
use Rattle.poll_log.specs.Sendings.{limit}
use Rattle.poll_log.specs.Jobs.{IsCut, IsPolled, some_wait}
use Rattle.poll_log.specs.Streamed.{IsStreamed}
use Rattle.pac_plan.specs.Plan.{End, Outside, whole, faulted, unfinished}
use Rattle.poll_loop.specs.Task.{Talk}
use Rattle.poll_loop.specs.Numbers.{GaveAll}
use Rattle.poll_loop.specs.Streams.{CountsStreams, with_stream_faults}

-- The link after these moves: opened once, to the servers, before the first. Without moves it is as it was.
abbrev pub linked : Servers → List Move → LinkState → LinkState
linked servers [] link = link
linked servers (m ∷ moves) link = with_moves (m ∷ moves) (with_open servers link)

-- Nobody waits any more.
pub record EndsWhole (talk : Talk) (old : Outside) (log : List Move) (new : Outside) : Type 0 where
  pub polled : IsPolled talk.task.terms talk.task.jobs (turns_of log)
  pub streamed : IsStreamed talk.task.terms None log
  pub link : new.link ≡ with_stream_faults new.link.stream_faults (linked talk.servers log old.link)
  -- the j-th name that was sent first carries the j-th number of the dice
  pub drew : GaveAll old.dice (drawn (turns_of log)) new.dice
  pub ran : new.runs ≡ old.runs + talk.task.runs (turns_of log)

-- The link failed while some job waited, or a frame was owed.
pub record EndsByFault (talk : Talk) (old : Outside) (log : List Move) (new : Outside) : Type 0 where
  pub cut : IsCut talk.task.terms talk.task.jobs (turns_of log)
  pub owed : Option Question
  pub streamed : IsStreamed talk.task.terms owed log
  pub waits : (some_wait talk.task.terms talk.task.jobs (turns_of log) ≡ true) ⊎ IsSome owed
  pub link : LinkFails (with_stream_faults new.link.stream_faults (with_moves log (with_open talk.servers old.link))) new.link
  pub unsure : has_move new.link ≡ false
  pub drew : GaveAll old.dice (drawn (with_sent (turns_of log) cut.unsent)) new.dice
  pub ran : new.runs ≡ old.runs + talk.task.runs (turns_of log)

-- Memory ran out.
pub record EndsForMemory (talk : Talk) (old : Outside) (log : List Move) (new : Outside) : Type 0 where
  pub cut : IsCut talk.task.terms talk.task.jobs (turns_of log)
  pub owed : Option Question
  pub streamed : IsStreamed talk.task.terms owed log
  pub link : new.link ≡ with_stream_faults new.link.stream_faults (linked talk.servers log old.link)
  -- numbers may have been drawn for names that were not sent
  pub drew : (more : List ℕ) × GaveAll old.dice (drawn (turns_of log) ++ more) new.dice
  pub ran : new.runs ≤ old.runs + talk.task.runs (turns_of log)

-- it ran out before anything was done
pub record EndsUnbegun (old : Outside) (log : List Move) (new : Outside) : Type 0 where
  pub empty : log ≡ []
  pub same : new ≡ old

abbrev pub Ends : Talk → Outside → End → List Move → Outside → Type 0
Ends talk old whole log new = EndsWhole talk old log new
Ends talk old faulted log new = EndsByFault talk old log new
Ends talk old unfinished log new = EndsForMemory talk old log new ⊎ EndsUnbegun old log new

-- no talk has more events than these: 4,096 for each of the beats of 32 names, one after another
abbrev pub most_events : Terms → ℕ
most_events terms = FLOOD * (MOST_NAMES * limit terms)

-- however it ends
pub record Talked (talk : Talk) (old : Outside) (end : End) (log : List Move) (new : Outside) : Type 0 where
  pub files : new.files ≡ old.files
  pub clock : new.clock ≡ old.clock
  pub few : events (turns_of log) ≤ most_events talk.task.terms
  pub streams : CountsStreams log old.link.stream_faults new.link.stream_faults
  pub ends : Ends talk old end log new
