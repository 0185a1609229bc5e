-- A law of talks.
use Rattle.std.specs.Prelude.{List}
use Rattle.pac_ports.specs.declared.link.Move.{Move}
use Rattle.poll_log.specs.Turns.{turns_of}
use Rattle.poll_log.specs.Jobs.{IsCut}
use Rattle.pac_plan.specs.Plan.{Outside, unfinished}
use Rattle.poll_loop.specs.Task.{IsSound, Talk}
use Rattle.poll_loop.specs.Talks.{Talked}

-- where memory ran out the log of a sound talk is cut short, also where nothing was done yet
abbrev pub UnfinishedIsCut : Type 0
UnfinishedIsCut =
    (talk : Talk) (old : Outside) (log : List Move) (new : Outside) → IsSound talk.task → Talked talk old unfinished log new
    → IsCut talk.task.terms talk.task.jobs (turns_of log)
