-- There is one civil date and time for a number of seconds, so one pair of moments.
use Rattle.std.proofs.Common.{◌≡◌, ℤ, ◌+ℤ◌, sym, ◌∙◌, ◌+◌, ◌%◌}
use Rattle.jiff_core.specs.Calendar.{weekday_number}
use Rattle.jiff_core.proofs.DateLemmas.{epoch_day_injective}
use Rattle.jiff_core.proofs.DateTimeLemmas.{civil_nanos_injective, time_nanos_injective}
use Rattle.pac_calendar.specs.Civil.{civil_of, IsCivilAt, AreMomentsAt}
use Rattle.pac_calendar.specs.declared.moment.Civil.{Civil}
use Rattle.pac_calendar.specs.declared.moment.Moments.{Moments}

pub one_civil : (s : ℤ) (c d : Civil) → IsCivilAt s c → IsCivilAt s d → c ≡ d
one_civil s c d (a, at, is) (b, bt, ids) =
    let whole = civil_nanos_injective a b (at ∙ sym bt) in
    let date = epoch_day_injective a.date b.date whole.0 in
    let time = time_nanos_injective a.time b.time whole.1 in
    let same : civil_of a ≡ civil_of b = λ i. record {
      year = date.0 i;
      month = date.1 i;
      day = date.2 i;
      weekday = (weekday_number (whole.0 i) + 1) % 7;
      hour = time.0 i;
      minute = time.1 i;
      second = time.2 i;
    } in
    is ∙ same ∙ sym ids

pub one_pair : (s offset : ℤ) (m n : Moments) → AreMomentsAt s offset m → AreMomentsAt s offset n → m ≡ n
one_pair s offset m n a b = λ i. record { gmt = one_civil s m.gmt n.gmt a.gmt b.gmt i; local = one_civil (s +ℤ offset) m.local n.local a.local b.local i }
