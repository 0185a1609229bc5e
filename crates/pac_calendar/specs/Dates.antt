-- `dateRange` of the Netscape Navigator Proxy Auto-Config format.
use Rattle.std.specs.Prelude.{ℕ, ◌+◌, ℤ, pos, negsuc, List, [], ◌∷◌, Bool, false, ◌&&◌, nat_le, if◌then◌else◌, Option, Some, None, codes}
use Rattle.std.specs.Ordering.{int_eq}
use Rattle.pac_calendar.specs.declared.argument.CalendarArg.{CalendarArg}
use Rattle.pac_calendar.specs.declared.argument.CalendarArg.TheVariants as arg
use Rattle.pac_calendar.specs.declared.dates.DatePart.{DatePart}
use Rattle.pac_calendar.specs.declared.dates.DatePart.TheVariants.{Day, Month, Year, Nothing}
use Rattle.pac_calendar.specs.declared.moment.Civil.{Civil}
use Rattle.pac_calendar.specs.declared.moment.Moments.{Moments}
use Rattle.pac_calendar.specs.Argument.{place_of, clock_of, form_of}
use Rattle.pac_calendar.specs.Order.{is_within, is_within_round}

abbrev pub month_names : List (List ℕ)
month_names =
    codes "JAN" ∷ codes "FEB" ∷ codes "MAR" ∷ codes "APR" ∷ codes "MAY" ∷ codes "JUN" ∷
    codes "JUL" ∷ codes "AUG" ∷ codes "SEP" ∷ codes "OCT" ∷ codes "NOV" ∷ codes "DEC" ∷ []

abbrev pub month_at : Option ℕ → DatePart
month_at (Some place) = Month (pos (place + 1))
month_at None = Nothing

-- the month that an argument names, from 1 for January
abbrev pub month_of : CalendarArg → DatePart
month_of a = month_at (place_of month_names a)

-- a number from 1 to 31 is a day, one from 1000 a year
abbrev pub part_of_number : ℤ → DatePart
part_of_number (pos n) = if nat_le 1 n && nat_le n 31 then Day (pos n)
    else if nat_le 1000 n then Year (pos n) else Nothing
part_of_number (negsuc n) = Nothing

abbrev pub part_of : CalendarArg → DatePart
part_of (arg.Number n) = part_of_number n
part_of (arg.Text text) = month_of (arg.Text text)
part_of arg.Other = Nothing

-- what the clock shows
abbrev pub month_and_day_of : Civil → List ℤ
month_and_day_of c = pos c.month ∷ pos c.day ∷ []

abbrev pub year_and_month_of : Civil → List ℤ
year_and_month_of c = c.year ∷ pos c.month ∷ []

abbrev pub date_of : Civil → List ℤ
date_of c = c.year ∷ pos c.month ∷ pos c.day ∷ []

-- a day, a month and a year are a date
abbrev pub date_at : DatePart → DatePart → DatePart → Option (List ℤ)
date_at (Day d) (Month m) (Year y) = Some (y ∷ m ∷ d ∷ [])
date_at a b c = None

-- the day is from the first date to the second inclusive
abbrev pub is_between : Civil → Option (List ℤ) → Option (List ℤ) → Bool
is_between c (Some from) (Some to) = is_within from to (date_of c)
is_between c (Some from) None = false
is_between c None to = false

-- the forms of one part, one a line
abbrev pub is_in_one : Civil → DatePart → Bool
is_in_one c (Day d) = int_eq d (pos c.day)
is_in_one c (Month m) = int_eq m (pos c.month)
is_in_one c (Year y) = int_eq y c.year
is_in_one c Nothing = false

-- of two parts: a day of each year, and ranges; a range goes past the last of all to the first where it has no year
abbrev pub is_in_two : Civil → DatePart → DatePart → Bool
is_in_two c (Day d) (Month m) = int_eq d (pos c.day) && int_eq m (pos c.month)
is_in_two c (Day d) (Day e) = is_within_round (d ∷ []) (e ∷ []) (pos c.day ∷ [])
is_in_two c (Month m) (Month n) = is_within_round (m ∷ []) (n ∷ []) (pos c.month ∷ [])
is_in_two c (Year y) (Year z) = is_within (y ∷ []) (z ∷ []) (c.year ∷ [])
is_in_two c a b = false

-- of four: ranges of days and months, and of months and years
abbrev pub is_in_four : Civil → DatePart → DatePart → DatePart → DatePart → Bool
is_in_four c (Day d) (Month m) (Day e) (Month n) = is_within_round (m ∷ d ∷ []) (n ∷ e ∷ []) (month_and_day_of c)
is_in_four c (Month m) (Year y) (Month n) (Year z) = is_within (y ∷ m ∷ []) (z ∷ n ∷ []) (year_and_month_of c)
is_in_four c a b d e = false

-- the forms by their lengths: those of three and six parts are one date and a range of dates
abbrev pub is_in_date_form : Civil → List CalendarArg → Bool
is_in_date_form c (a ∷ []) = is_in_one c (part_of a)
is_in_date_form c (a ∷ b ∷ []) = is_in_two c (part_of a) (part_of b)
is_in_date_form c (d ∷ m ∷ y ∷ []) =
    is_between c (date_at (part_of d) (part_of m) (part_of y)) (date_at (part_of d) (part_of m) (part_of y))
is_in_date_form c (a ∷ b ∷ d ∷ e ∷ []) = is_in_four c (part_of a) (part_of b) (part_of d) (part_of e)
is_in_date_form c (d ∷ m ∷ y ∷ e ∷ n ∷ z ∷ []) =
    is_between c (date_at (part_of d) (part_of m) (part_of y)) (date_at (part_of e) (part_of n) (part_of z))
is_in_date_form c args = false

abbrev pub is_in_date_range : Moments → List CalendarArg → Bool
is_in_date_range m args = is_in_date_form (clock_of m args) (form_of args)
