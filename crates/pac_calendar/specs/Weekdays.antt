-- `weekdayRange` of the Netscape Navigator Proxy Auto-Config format.
use Rattle.std.specs.Prelude.{ℕ, ℤ, pos, List, [], ◌∷◌, Bool, false, Option, Some, None, codes, option_map}
use Rattle.pac_calendar.specs.declared.argument.CalendarArg.{CalendarArg}
use Rattle.pac_calendar.specs.declared.moment.Civil.{Civil}
use Rattle.pac_calendar.specs.declared.moment.Moments.{Moments}
use Rattle.pac_calendar.specs.Argument.{place_of, clock_of, form_of}
use Rattle.pac_calendar.specs.Order.{is_within_round}

abbrev pub weekday_names : List (List ℕ)
weekday_names = codes "SUN" ∷ codes "MON" ∷ codes "TUE" ∷ codes "WED" ∷ codes "THU" ∷ codes "FRI" ∷ codes "SAT" ∷ []

-- the weekday that an argument names, from 0 for Sunday
abbrev pub weekday_of : CalendarArg → Option ℤ
weekday_of a = option_map pos (place_of weekday_names a)

-- the day is one from the first to the second inclusive, past Saturday to Sunday where the first comes later
abbrev pub is_in_days : Civil → Option ℤ → Option ℤ → Bool
is_in_days c (Some from) (Some to) = is_within_round (from ∷ []) (to ∷ []) (pos c.weekday ∷ [])
is_in_days c (Some from) None = false
is_in_days c None to = false

-- the forms: one day; two days
abbrev pub is_in_weekday_form : Civil → List CalendarArg → Bool
is_in_weekday_form c (day ∷ []) = is_in_days c (weekday_of day) (weekday_of day)
is_in_weekday_form c (from ∷ to ∷ []) = is_in_days c (weekday_of from) (weekday_of to)
is_in_weekday_form c args = false

abbrev pub is_in_weekday_range : Moments → List CalendarArg → Bool
is_in_weekday_range m args = is_in_weekday_form (clock_of m args) (form_of args)
