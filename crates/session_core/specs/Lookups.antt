-- What is known of names: what an event tells, and what is asked.
use Rattle.std.specs.Prelude.{Option, Some, None, is_some, List, if◌then◌else◌}
use Rattle.std.specs.FinMap as map
use Rattle.pac_names.specs.declared.answer.Answer.{Answer}
use Rattle.pac_names.specs.Names.{Name}
use Rattle.js_host.specs.Answers.{AnswerMap}
use Rattle.poll_log.specs.declared.question.Question.{Question}
use Rattle.poll_log.specs.declared.terms.Terms.{Terms}
use Rattle.poll_log.specs.Turns.{Event, Given, Tick}
use Rattle.stub_poller.specs.State.{StubState, answered_by, new_stub}
use Rattle.stub_poller.specs.Driven.{asking_all, receiving}
use Rattle.session_core.specs.declared.lookups.Lookups.{Lookups}

-- nothing was asked, and nothing came
abbrev pub new_lookups : Terms → Lookups
new_lookups terms = record { table = map.empty; stub = new_stub terms; beats = 0 }

-- these questions were asked besides
abbrev pub with_asked : List Question → Lookups → Lookups
with_asked asked lookups = record lookups { stub = asking_all asked lookups.stub }

-- an answer that stands is kept, and else this one is put in
abbrev pub with_answer : Name → Answer → AnswerMap → AnswerMap
with_answer name answer table = if is_some (map.get table name) then table else map.insert table name answer

abbrev pub with_found : Option (Name × Answer) → AnswerMap → AnswerMap
with_found None table = table
with_found (Some found) table = with_answer found.0 found.1 table

abbrev pub told_name : Option (Name × Answer) → Option Name
told_name None = None
told_name (Some found) = Some found.0

-- the name in flight and the answer that an event gives it, if it gives one
abbrev pub found_at : Event → StubState → Option (Name × Answer)
found_at (Given datagram) stub = answered_by datagram stub.flights
found_at Tick stub = None

-- An event came: what it answers is told, and no longer in flight.
abbrev pub hearing : Event → Lookups → Lookups
hearing event lookups = record lookups {
  table = with_found (found_at event lookups.stub) lookups.table;
  stub = receiving event lookups.stub;
}
