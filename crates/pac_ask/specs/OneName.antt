-- One name, as contracts see it.
use Rattle.std.specs.Prelude.{ℕ, List, Option, Some, None}
use Rattle.pac_names.specs.declared.answer.Answer.{Answer}
use Rattle.pac_names.specs.Names.{Name}
use Rattle.poll_log.specs.declared.question.Question.{Question}
use Rattle.poll_log.specs.declared.terms.Terms.{Terms}
use Rattle.poll_log.specs.Turns.{Turns, Event, Given, Tick}
use Rattle.stub_poller.specs.State.{answered_by, asking, given, new_stub}
use Rattle.poll_loop.specs.Task.{Task}
use Rattle.pac_ask.specs.Standing.{Stands}
use Rattle.pac_ask.specs.declared.one_name.OneName.{OneName}

abbrev pub StandsFor : OneName → Task → Turns → Type 0
StandsFor one task turns = Stands one.name one.answer one.terms one.stub one.beats task turns

-- it waits for the name of this question, which is in flight
abbrev pub new_one : Terms → Question → OneName
new_one terms question = record { name = question.name; answer = None; terms = terms; stub = asking question (new_stub terms); beats = 0 }

-- the answer found, or else what was there
abbrev pub found_or : Option (Name × Answer) → Option Answer → Option Answer
found_or None answer = answer
found_or (Some found) answer = Some found.1

-- a datagram was received
abbrev pub received : List ℕ → OneName → OneName
received datagram one = record one { stub = given datagram one.stub; answer = found_or (answered_by datagram one.stub.flights) one.answer }

-- an event was heard
abbrev pub hearing : Event → OneName → OneName
hearing (Given datagram) one = received datagram one
hearing Tick one = one
