use Rattle.std.proofs.Common.{◌≡◌, ◌∙◌, ℤ, pos, true, false, subst}
use Rattle.std.specs.Prelude.{int_lt, unsigned_abs}
use Rattle.std.proofs.lemmas.Int.{to_z-of_z}
use mir.Syntax.{w32}
use Rattle.library_calls.proofs.Zones.{is_east, is_west}
use Rattle.library_calls.proofs.zone.zone_east.Goals as goal

pub returns-then-minutes-lt0 : goal.returns-then-minutes-lt0
returns-then-minutes-lt0 c =
    let same = to_z-of_z w32 c.args.minutes c.ranges.minutes in
    let away = subst (λ (m : ℤ). c.unsigned_abs-away.result ≡ unsigned_abs m) same c.unsigned_abs-away.ensures.value in
    let west = subst (λ (m : ℤ). int_lt m (pos 0) ≡ true) same c.if-minutes-lt0.true in
    c.written_zone.ensures ∙ is_west c.args.minutes c.unsigned_abs-away.result away west c.if-away.false

pub returns-else-minutes-lt0 : goal.returns-else-minutes-lt0
returns-else-minutes-lt0 c =
    let same = to_z-of_z w32 c.args.minutes c.ranges.minutes in
    let away = subst (λ (m : ℤ). c.unsigned_abs-away.result ≡ unsigned_abs m) same c.unsigned_abs-away.ensures.value in
    let east = subst (λ (m : ℤ). int_lt m (pos 0) ≡ false) same c.if-minutes-lt0.false in
    c.written_zone-else-minutes-lt0.ensures ∙ is_east c.args.minutes c.unsigned_abs-away.result away east c.if-away.false
