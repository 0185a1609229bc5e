-- Laws of `ask`.
use Rattle.std.specs.Prelude.{◌≡◌, List, IsTrue}
use Rattle.pac_names.specs.Names.{is_lookup_name, Name}
use Rattle.pac_ports.specs.declared.link.Move.{Move}
use Rattle.poll_log.specs.Sendings.{AreTerms}
use Rattle.poll_log.specs.Turns.{turns_of}
use Rattle.poll_log.specs.Told.{told}
use Rattle.poll_log.specs.Jobs.{IsPolled}
use Rattle.poll_log.specs.Laws.{IsAllTold}
use Rattle.pac_plan.specs.declared.status.Status.TheVariants as status
use Rattle.poll_loop.specs.Task.{IsSound}
use Rattle.poll_loop.specs.declared.looping.Upstream.{Upstream}
use Rattle.pac_ask.specs.Ask.{told_output}
use Rattle.pac_ask.specs.Task.{talk_of}

-- What is polled for is sound: what waits lacks one lookup name alone, and obeys the extension law.
abbrev pub AsksAreSound : Type 0
AsksAreSound =
    (upstream : Upstream) (name : Name) → AreTerms upstream.terms → IsTrue (is_lookup_name name)
    → IsSound (talk_of upstream name).task

-- Where the log is polled and each name that was sent is told, the name is answered.
abbrev pub ToldIsAnswered : Type 0
ToldIsAnswered =
    (upstream : Upstream) (name : Name) (log : List Move) → IsPolled upstream.terms (talk_of upstream name).task.jobs (turns_of log)
    → IsAllTold upstream.terms (turns_of log)
    → (told_output name (told upstream.terms (turns_of log) name)).status ≡ status.Unanswered → ⊥
