-- What `moments_at` says is what clocks show.
use Rattle.std.proofs.Common.{◌≡◌, ℕ, ◌+◌, ◌*◌, ◌/◌, ◌%◌, ◌<◌, ◌≤◌, ℤ, pos, negsuc, neg_ℤ, ◌+ℤ◌, ◌*ℤ◌, ◌≤ℤ◌, unsigned_abs, refl, sym, ◌∙◌, ap, arith}
use Rattle.jiff_core.specs.declared.civil.date.Date.{Date}
use Rattle.jiff_core.specs.declared.civil.time.Time.{Time}
use Rattle.jiff_core.specs.declared.civil.datetime.DateTime.{DateTime}
use Rattle.jiff_core.specs.Calendar.{weekday_number, IsBetween, IsWithin}
use Rattle.jiff_core.specs.Date.{epoch_day}
use Rattle.jiff_core.specs.DateTime.{civil_nanos}
use Rattle.jiff_core.specs.Timestamp.{nanos_of_seconds}
use Rattle.jiff_core.proofs.SignedLemmas.{signed_arith}
use Rattle.jiff_core.proofs.CalendarLemmas.{weekday_number-add}
use Rattle.jiff_core.proofs.DateTimeLemmas.{civil_nanos-parts}
use Rattle.pac_calendar.specs.declared.moment.Moments.{Moments}
use Rattle.pac_calendar.specs.Civil.{IsCivilAt, AreMomentsAt}
use Rattle.pac_calendar.proofs.Unique.{one_pair}
use Rattle.pac_clocks.specs.Clocks.{day_after, shown_after, moments_at}
use Rattle.pac_clocks.proofs.Days.{IsDayAfter, day_is}

date_on : (n : ℕ) → IsDayAfter n (day_after n) → Date
date_on n is = record {
  year = (day_after n).year;
  month = (day_after n).month;
  day = (day_after n).day;
  year_in = is.civil.0;
  month_in = is.civil.1;
  day_in = is.civil.2;
}

time_at : (s : ℕ) → s < 86400 → Time
time_at s within = record {
  hour = s / 3600;
  minute = s / 60 % 60;
  second = s % 60;
  subsec_nanosecond = 0;
  hour_in = omega arith;
  minute_in = omega arith;
  second_in = omega arith;
  subsec_in = omega arith;
}

-- 31 December 1969 was day -1, a Wednesday, which is 2 where Monday is 0
weekday_before : weekday_number (negsuc 0) ≡ 2
unfolding weekday_number
weekday_before = refl

weekday_is : (n : ℕ) (day : ℤ) → day +ℤ pos 1 ≡ pos n → (weekday_number day + 1) % 7 ≡ (n + 3) % 7
weekday_is n day is =
    let behind : day ≡ negsuc 0 +ℤ pos n = omega (arith, signed_arith, is) in
    omega (arith, weekday_number-add (negsuc 0) day n behind, weekday_before)

instant : (n : ℕ) → n / 86400 ≤ 2932897 → DateTime
instant n few = record { date = date_on (n / 86400) (day_is (n / 86400) few); time = time_at (n % 86400) (omega arith) }

-- hours, minutes and seconds
seconds_are : (s : ℕ) → s < 86400 → s / 3600 * 3600 + s / 60 % 60 * 60 + s % 60 ≡ s
seconds_are s within = omega arith

nanos_by_day : (day seconds : ℤ) (days rest n : ℕ) → day +ℤ pos 1 ≡ pos days → seconds +ℤ pos 86400 ≡ pos n → n ≡ days * 86400 + rest
    → day *ℤ pos 86400000000000 +ℤ pos (rest * 1000000000 + 0) ≡ nanos_of_seconds seconds
nanos_by_day day seconds days rest n day_is second_is whole = omega (arith, signed_arith, day_is, second_is, whole)

nanos_are : (n : ℕ) (few : n / 86400 ≤ 2932897) (seconds : ℤ) → seconds +ℤ pos 86400 ≡ pos n → civil_nanos (instant n few) ≡ nanos_of_seconds seconds
unfolding instant date_on time_at
nanos_are n few seconds is =
    let dt = instant n few in
    civil_nanos-parts dt
    ∙ ap (λ (rest : ℕ). epoch_day dt.date *ℤ pos 86400000000000 +ℤ pos (rest * 1000000000 + 0)) (seconds_are (n % 86400) (omega arith))
    ∙ nanos_by_day (epoch_day dt.date) seconds (n / 86400) (n % 86400) n (let there = day_is (n / 86400) few in there.number) is (omega arith)

-- so many seconds after 31 December 1969
civil_at : (n : ℕ) → n / 86400 ≤ 2932897 → (seconds : ℤ) → seconds +ℤ pos 86400 ≡ pos n → IsCivilAt seconds (shown_after n)
unfolding instant date_on time_at
civil_at n few seconds is =
    let there = day_is (n / 86400) few in
    (instant n few, nanos_are n few seconds is, ap (λ (weekday : ℕ). record (shown_after n) { weekday = weekday }) (sym (weekday_is (n / 86400) _ there.number)))

natural_is : (z : ℤ) → pos 0 ≤ℤ z → z ≡ pos (unsigned_abs z)
natural_is (pos n) h = refl
natural_is (negsuc n) h = absurd (omega (arith, signed_arith, h))

-- so many seconds after 1970
civil_since : (seconds : ℤ) → IsBetween (neg_ℤ (pos 86340)) (pos 253370851139) seconds → IsCivilAt seconds (shown_after (unsigned_abs (seconds +ℤ pos 86400)))
civil_since seconds between =
    let is = natural_is (seconds +ℤ pos 86400) (omega (arith, signed_arith, between)) in
    civil_at (unsigned_abs (seconds +ℤ pos 86400)) (omega (arith, signed_arith, between, is)) seconds is

moments_are : (seconds offset : ℤ) → IsBetween (pos 0) (pos 253370764799) seconds → IsWithin 86340 offset → AreMomentsAt seconds offset (moments_at seconds offset)
moments_are seconds offset between within = record {
  gmt = civil_since seconds (omega (arith, signed_arith, between), omega (arith, signed_arith, between));
  local = civil_since (seconds +ℤ offset) (omega (arith, signed_arith, between, within), omega (arith, signed_arith, between, within));
}

-- what clocks show is what `moments_at` says
pub shown_is : (seconds offset : ℤ) (m : Moments) → IsBetween (pos 0) (pos 253370764799) seconds → IsWithin 86340 offset → AreMomentsAt seconds offset m → m ≡ moments_at seconds offset
shown_is seconds offset m between within are = one_pair seconds offset m (moments_at seconds offset) are (moments_are seconds offset between within)
