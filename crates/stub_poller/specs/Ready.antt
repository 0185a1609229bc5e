-- What each stub keeps: terms in their ranges, ages below the limit, and room for the reports of all beats to come.
use Rattle.std.specs.Prelude.{◌+◌, ◌<◌, ◌≤◌, length, vec_len, vec_capacity}
use Rattle.std.specs.List.{All}
use Rattle.poll_log.specs.Sendings.{AreTerms, limit}
use Rattle.stub_poller.specs.declared.stub.Stub.TheInside.{Inside}

pub record IsReady (stub : Inside) : Type 0 where
  pub terms : AreTerms stub.terms
  pub young : All (λ f. f.age < limit stub.terms) stub.flights
  pub resend : length stub.flights ≤ vec_capacity stub.report.resend
  pub dying : length stub.flights ≤ vec_capacity stub.report.dead
  pub dead : vec_len stub.dead + length stub.flights ≤ vec_capacity stub.dead
