-- A stub that is driven by the moves of a log.
use Rattle.std.specs.Prelude.{◌<◌, [], ◌∷◌, Bool, true, false, List}
use Rattle.poll_log.specs.declared.question.Question.{Question}
use Rattle.poll_log.specs.declared.terms.Terms.{Terms}
use Rattle.poll_log.specs.Turns.{Turns, Begin, Then, Event, Given, Tick}
use Rattle.poll_log.specs.Beats.{is_beat}
use Rattle.poll_log.specs.Questions.{asked_in, firsts, new_among}
use Rattle.poll_log.specs.Sendings.{limit}
use Rattle.poll_log.specs.Told.{age, told}
use Rattle.stub_poller.specs.State.{StubState, asking, beaten, given, new_stub}
use Rattle.stub_poller.specs.Shows.{Shows}

-- each question is asked
abbrev pub asking_all : List Question → StubState → StubState
asking_all [] stub = stub
asking_all (q ∷ qs) stub = asking_all qs (asking q stub)

abbrev pub receiving : Event → StubState → StubState
receiving (Given datagram) stub = given datagram stub
receiving Tick stub = stub

abbrev pub beaten_if : Bool → StubState → StubState
beaten_if true stub = beaten stub
beaten_if false stub = stub

-- In each turn it is handed the datagram, is asked each name that is sent for the first time, and then counts the beat,
-- where the event is one.
unfoldable pub driven : Terms → Turns → StubState
driven terms (Begin sent) = asking_all (new_among [] (asked_in sent)) (new_stub terms)
driven terms (Then before event sent) =
    beaten_if (is_beat before event) (asking_all (new_among (firsts before) (asked_in sent)) (receiving event (driven terms before)))

-- It holds the names sent, neither told nor dead, in the order of first sending, each with its number and age, and knows the
-- dead ones.
abbrev pub DrivenShows : Type 0
DrivenShows = (terms : Terms) (turns : Turns) → 0 < limit terms → Shows (driven terms turns) (told terms turns) (age turns) (firsts turns)
