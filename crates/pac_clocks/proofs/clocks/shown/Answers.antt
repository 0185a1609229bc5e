use Rattle.std.proofs.Common.{◌≡◌, Ok, Err, Result, IfOk, subst, rules, FitsSigned, w64, to_z-of_z}
use Rattle.std.specs.Prelude.{ℤ, pos}
use Rattle.jiff_core.specs.Calendar.{IsBetween, IsWithin}
use Rattle.utf16_text.specs.declared.memory.Memory.{Memory}
use Rattle.pac_calendar.specs.declared.moment.Moments.{Moments}
use Rattle.pac_calendar.specs.Civil.{AreMomentsAt}
use Rattle.pac_clocks.specs.Clocks.{moments_at}
use Rattle.pac_clocks.proofs.Instants.{shown_is}
use Rattle.pac_clocks.proofs.clocks.shown.Goals as goal

abbrev in_offset : (offset seconds : ℤ) → IsBetween (pos 0) (pos 253370764799) seconds → IsWithin 86340 offset → (r : Result Moments Memory)
    → IfOk r (λ m. AreMomentsAt seconds offset m) → IfOk r (λ m. m ≡ moments_at seconds offset)
in_offset offset seconds between within (Ok m) are = shown_is seconds offset m between within are
in_offset offset seconds between within (Err e) are = tt

pub returns : goal.returns
returns c =
    let fits : FitsSigned w64 c.in_range.result = search rules in
    let given : FitsSigned w64 c.args.seconds = search rules in
    let value = rw (to_z-of_z given) at c.in_range.ensures.value in
    let shown = rw (to_z-of_z fits) at c.moments.ensures in
    let within = subst (IsWithin 86340) c.seconds-offset.ensures.value c.seconds-offset.ensures.within in
    subst (λ (s : ℤ). IfOk c.moments.result (λ m. m ≡ moments_at s c.args.zone)) value (in_offset c.args.zone c.in_range.result c.in_range.ensures.within within c.moments.result shown)
