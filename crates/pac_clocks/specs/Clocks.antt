-- What clocks show, day by day, in the Gregorian calendar.
use Rattle.std.specs.Prelude.{ℕ, zero, suc, ◌+◌, ◌/◌, ◌%◌, nat_lt, ℤ, pos, ◌+ℤ◌, int_lt, unsigned_abs, if◌then◌else◌}
use Rattle.jiff_core.specs.Calendar.{days_in_month}
use Rattle.pac_calendar.specs.declared.moment.Civil.{Civil}
use Rattle.pac_calendar.specs.declared.moment.Moments.{Moments}
use Rattle.pac_calendar.specs.declared.showing.TheConstants.{LAST_MOMENT}

-- the moment nearest to this that a command may have: from 1970 to the end of the year 9998
abbrev pub nearest : ℤ → ℤ
nearest seconds =
    if int_lt seconds (pos 0) then pos 0
    else (if int_lt (pos LAST_MOMENT) seconds then pos LAST_MOMENT else seconds)

pub record Day : Type 0 where
  pub year : ℤ
  pub month : ℕ
  pub day : ℕ

abbrev pub next_day : Day → Day
next_day d =
    if nat_lt d.day (days_in_month d.year d.month) then record { year = d.year; month = d.month; day = d.day + 1 }
    else (if nat_lt d.month 12 then record { year = d.year; month = d.month + 1; day = 1 }
    else record { year = d.year +ℤ pos 1; month = 1; day = 1 })

-- so many days after 31 December 1969
unfoldable pub day_after : ℕ → Day
day_after zero = record { year = pos 1969; month = 12; day = 31 }
day_after (suc n) = next_day (day_after n)

-- What a clock in UTC shows on that day, so many seconds after midnight. The weekday counts from 0 for Sunday;
-- 31 December 1969 was a Wednesday.
abbrev pub shown_on : ℕ → ℕ → Civil
shown_on days seconds = record {
  year = (day_after days).year;
  month = (day_after days).month;
  day = (day_after days).day;
  weekday = (days + 3) % 7;
  hour = seconds / 3600;
  minute = seconds / 60 % 60;
  second = seconds % 60;
}

-- so many seconds after 31 December 1969
abbrev pub shown_after : ℕ → Civil
shown_after seconds = shown_on (seconds / 86400) (seconds % 86400)

-- so many seconds after 1970 in UTC, in a zone of this offset, from a day before 1970 on
abbrev pub moments_at : ℤ → ℤ → Moments
moments_at seconds offset = record {
  gmt = shown_after (unsigned_abs (seconds +ℤ pos 86400));
  local = shown_after (unsigned_abs (seconds +ℤ offset +ℤ pos 86400));
}
