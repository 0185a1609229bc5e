use Rattle.std.proofs.Common.{◌≡◌, arith, w32, w64, FitsSigned, ap, ◌∙◌, ◌+ℤ◌}
use Rattle.std.proofs.lemmas.Int.{to_z-of_z}
use Rattle.std.proofs.Common.{subst}
use Rattle.jiff.proofs.SpanFacts.{signed_arith}
use Rattle.pac_calendar.specs.Civil.{IsCivilAt}
use Rattle.pac_calendar.proofs.showing.moments.Goals as goal

pub returns : goal.returns
returns c =
    let fits : FitsSigned w64 c.args.seconds = c.ranges.seconds in
    let zone_fits : FitsSigned w32 c.seconds.result = record { sfits = c.seconds.type_inv } in
    let from = simp to_z-of_z at c.from.ensures in
    let from_fits : FitsSigned w64 c.from.result = record { sfits = c.from.type_inv } in
    let sum_fits : FitsSigned w64 (c.args.seconds +ℤ c.from.result) = omega (arith, signed_arith) in
    let gmt = simp to_z-of_z at c.shown_at-gmt.ensures in
    let local = simp to_z-of_z at c.shown_at-local.ensures in
    let same : c.args.seconds +ℤ c.from.result ≡ c.args.seconds +ℤ c.args.zone.now = ap (λ z. c.args.seconds +ℤ z) (from ∙ c.seconds.ensures.value) in
    record { gmt = gmt; local = subst (λ z. IsCivilAt z c.shown_at-local.result) same local }
