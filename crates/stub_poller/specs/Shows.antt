-- When a stub shows a moment: the answers that are told, the age of each name, and the questions that were sent first.
use Rattle.std.specs.Prelude.{◌≡◌, ℕ, ◌<◌, false, List}
use Rattle.pac_names.specs.Names.{Name}
use Rattle.poll_log.specs.declared.question.Question.{Question}
use Rattle.poll_log.specs.Questions.{has_name}
use Rattle.poll_log.specs.Sendings.{limit}
use Rattle.poll_log.specs.Told.{Map}
use Rattle.poll_log.specs.Moment.{flights_in, dead_in}
use Rattle.stub_poller.specs.State.{StubState, is_dead_in}

pub record Shows (stub : StubState) (answers : Map) (age : Name → ℕ) (sent : List Question) : Type 0 where
  -- in flight is what was sent and is neither told nor dead, in the order of first sending, with number and age
  pub flying : stub.flights ≡ flights_in (limit stub.terms) answers age sent
  pub dying : (n : Name) → is_dead_in n stub ≡ dead_in (limit stub.terms) answers age sent n
  -- a name that was not sent has no age
  pub young : (n : Name) → has_name n sent ≡ false → age n ≡ 0
  pub lasting : 0 < limit stub.terms
