-- What a talk over a link in memory does to the outside: its questions are answered from a map, its numbers are 0, 1, 2
-- and so on, and nothing but the count of runs changes.
use Rattle.std.specs.Prelude.{◌≡◌, ◌+◌, ◌≤◌, List, length, None}
use Rattle.js_host.specs.Answers.{AnswerMap}
use Rattle.pac_ports.specs.declared.link.Move.{Move}
use Rattle.poll_log.specs.Turns.{Turns, turns_of}
use Rattle.poll_log.specs.Questions.{drawn, firsts}
use Rattle.poll_log.specs.Jobs.{IsCut, IsPolled}
use Rattle.poll_log.specs.Streamed.{IsStreamed}
use Rattle.pac_plan.specs.Plan.{End, Outside, whole, faulted, unfinished}
use Rattle.poll_loop.specs.Task.{IsSound, Task}
use Rattle.pac_generate.specs.Answered.{IsAnswered}
use Rattle.memory_talk.specs.Numbers.{first_numbers}

-- a map that all questions are answered from, and what is polled for
pub record MemoryTalk : Type 0 where
  pub answers : AnswerMap
  pub task : Task

-- A log over a link that answers from a map, with dice that count.
pub record IsMemoryLog (answers : AnswerMap) (turns : Turns) : Type 0 where
  pub answered : IsAnswered answers turns
  -- the names that were sent first carry these numbers, in order
  pub numbered : drawn turns ≡ first_numbers (length (firsts turns))

-- Nobody waits any more.
pub record EndsAnswered (talk : MemoryTalk) (old : Outside) (log : List Move) (new : Outside) : Type 0 where
  pub polled : IsPolled talk.task.terms talk.task.jobs (turns_of log)
  pub in_memory : IsMemoryLog talk.answers (turns_of log)
  pub streamed : IsStreamed talk.task.terms None log
  pub ran : new ≡ record old { runs = old.runs + talk.task.runs (turns_of log) }

-- Memory ran out, or the room of the link.
pub record EndsEarly (talk : MemoryTalk) (old : Outside) (log : List Move) (new : Outside) : Type 0 where
  pub cut : IsSound talk.task → IsCut talk.task.terms talk.task.jobs (turns_of log)
  pub answered : IsAnswered talk.answers (turns_of log)
  pub streamed : IsStreamed talk.task.terms None log
  pub kept : new ≡ record old { runs = new.runs }
  pub ran : new.runs ≤ old.runs + talk.task.runs (turns_of log)

-- a link in memory is no part of the outside, so no fault of it is told
abbrev pub Talked : MemoryTalk → Outside → End → List Move → Outside → Type 0
Talked talk old whole log new = EndsAnswered talk old log new
Talked talk old faulted log new = ⊥
Talked talk old unfinished log new = EndsEarly talk old log new
