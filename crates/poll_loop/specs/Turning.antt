-- How far a talk has come, and how it ends.
use Rattle.std.specs.Prelude.{◌≡◌, ℕ, ◌+◌, ◌<◌, List, Option, None, Result, Ok, Err, length}
use Rattle.pac_ports.specs.Dice.{DiceTold}
use Rattle.pac_ports.specs.Link.{LinkState, with_moves, with_open}
use Rattle.pac_ports.specs.declared.link.Move.{Move}
use Rattle.poll_log.specs.Turns.{Turns, turns_of}
use Rattle.poll_log.specs.Beats.{events}
use Rattle.poll_log.specs.Questions.{drawn}
use Rattle.poll_log.specs.Jobs.{SendsOwed, WaitsBefore}
use Rattle.poll_log.specs.Rounds.{Rounds, moves_of, turns_in, unfinished as rest_of}
use Rattle.poll_log.specs.Streamed.{AreFramed, framed}
use Rattle.pac_plan.specs.Plan.{Outside, around, whole, faulted, unfinished}
use Rattle.poll_loop.specs.Task.{IsSound, Talk}
use Rattle.poll_loop.specs.Numbers.{GaveAll}
use Rattle.poll_loop.specs.Streams.{CountsStreams, with_stream_faults}
use Rattle.poll_loop.specs.declared.stream.Stream.{Stream}
use Rattle.poll_loop.specs.Talks.{Talked}
use Rattle.poll_loop.specs.declared.looping.PollError.{PollError}
use Rattle.poll_loop.specs.declared.looping.PollError.TheVariants as error

-- So many events came, each while some job waited, and all that is owed was sent.
pub record Reached (talk : Talk) (Stands : Turns → Type 0) (old : Outside) (stream : Stream) (link : LinkState) (dice : Option DiceTold) (runs count : ℕ) : Type 0 where
  pub sound : IsSound talk.task
  pub rounds : Rounds
  pub begun : 0 < length (moves_of rounds)
  pub stands : Stands (turns_in rounds)
  pub sends : SendsOwed talk.task.terms talk.task.jobs (turns_in rounds)
  pub waits : WaitsBefore talk.task.terms talk.task.jobs (turns_in rounds)
  pub counted : events (turns_in rounds) ≡ count
  -- each frame that was due was sent; what is kept of the stream is what came over it, and whose frames were due
  pub frames : AreFramed talk.task.terms None rounds
  pub read : stream.reader.unfinished ≡ rest_of rounds
  pub known : stream.framed.items ≡ framed talk.task.terms rounds
  pub link_now : link ≡ with_stream_faults link.stream_faults (with_moves (moves_of rounds) (with_open talk.servers old.link))
  pub streams : CountsStreams (moves_of rounds) old.link.stream_faults link.stream_faults
  pub drew : GaveAll old.dice (drawn (turns_in rounds)) dice
  pub ran : runs ≡ old.runs + talk.task.runs (turns_in rounds)

-- the talk ended by this log, and where it went to its end the poller stands for that log
abbrev pub Polled : Talk → (Turns → Type 0) → Outside → Result (Unit {0}) PollError → Outside → Type 0
Polled talk Stands old (Ok u) new = (log : List Move) × Talked talk old whole log new × Stands (turns_of log)
Polled talk Stands old (Err error.Link) new = (log : List Move) × Talked talk old faulted log new
Polled talk Stands old (Err error.Memory) new = (log : List Move) × Talked talk old unfinished log new

-- so many events came, or the talk ended
abbrev pub Turned : Talk → (Turns → Type 0) → Outside → Result (Unit {0}) PollError → Stream → LinkState → Option DiceTold → ℕ → ℕ → Type 0
Turned talk Stands old (Ok u) stream link dice runs count = Reached talk Stands old stream link dice runs count
Turned talk Stands old (Err error.Link) stream link dice runs count = (log : List Move) × Talked talk old faulted log (around old link dice runs)
Turned talk Stands old (Err error.Memory) stream link dice runs count = (log : List Move) × Talked talk old unfinished log (around old link dice runs)
