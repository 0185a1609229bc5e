use Rattle.std.proofs.Common.{◌≡◌, arith, w64, FitsSigned}
use Rattle.std.proofs.lemmas.Int.{to_z-of_z}
use Rattle.std.proofs.lemmas.Result.{IfOk-at_ok}
use Rattle.jiff.proofs.SpanFacts.{signed_arith}
use Rattle.jiff_core.specs.Timestamp.{nanos_of_seconds}
use Rattle.pac_calendar.proofs.showing.shown_at.Goals as goal

pub returns : goal.returns
returns c =
    let fits : FitsSigned w64 c.args.seconds = c.ranges.seconds in
    let made = simp to_z-of_z at c.from_second.ensures.value in
    let value = IfOk-at_ok (λ t. t.nanosecond ≡ nanos_of_seconds c.args.seconds) c.unwrap-instant.ensures made in
    (c.to_datetime.result, omega (arith, signed_arith, value, c.to_datetime.ensures), c.civil_of.ensures)
