-- What clocks show, as `jiff` defines it.
use Rattle.std.specs.Prelude.{◌≡◌, ◌+◌, ◌%◌, ℤ, ◌+ℤ◌}
use Rattle.jiff_core.specs.declared.civil.datetime.DateTime.{DateTime}
use Rattle.jiff_core.specs.Date.{weekday_of}
use Rattle.jiff_core.specs.DateTime.{civil_nanos}
use Rattle.jiff_core.specs.Timestamp.{nanos_of_seconds}
use Rattle.pac_calendar.specs.declared.moment.Civil.{Civil}
use Rattle.pac_calendar.specs.declared.moment.Moments.{Moments}

-- the parts of a datetime; the weekday counts from 0 for Sunday
abbrev pub civil_of : DateTime → Civil
civil_of dt = record {
  year = dt.date.year;
  month = dt.date.month;
  day = dt.date.day;
  weekday = (weekday_of dt.date + 1) % 7;
  hour = dt.time.hour;
  minute = dt.time.minute;
  second = dt.time.second;
}

-- a clock in UTC shows it that many seconds after 1970-01-01T00:00:00Z
abbrev pub IsCivilAt : ℤ → Civil → Type 0
IsCivilAt seconds c = (dt : DateTime) × (civil_nanos dt ≡ nanos_of_seconds seconds) × (c ≡ civil_of dt)

-- so many seconds after 1970 in UTC, in a zone of this offset
pub record AreMomentsAt (seconds offset : ℤ) (m : Moments) : Type 0 where
  pub gmt : IsCivilAt seconds m.gmt
  pub local : IsCivilAt (seconds +ℤ offset) m.local
