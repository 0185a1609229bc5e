-- `timeRange` of the Netscape Navigator Proxy Auto-Config format.
use Rattle.std.specs.Prelude.{ℤ, pos, int_lt, List, [], ◌∷◌, Bool, false, if◌then◌else◌, Option, Some, None}
use Rattle.std.specs.Ordering.{int_eq}
use Rattle.pac_calendar.specs.declared.argument.CalendarArg.{CalendarArg}
use Rattle.pac_calendar.specs.declared.argument.CalendarArg.TheVariants as arg
use Rattle.pac_calendar.specs.declared.moment.Civil.{Civil}
use Rattle.pac_calendar.specs.declared.moment.Moments.{Moments}
use Rattle.pac_calendar.specs.Argument.{clock_of, form_of}
use Rattle.pac_calendar.specs.Order.{is_in_span}

-- a number from 0 up to and without a limit
abbrev pub within_limit : ℤ → ℤ → Option ℤ
within_limit limit n = if int_lt n (pos 0) then None else if int_lt n limit then Some n else None

abbrev pub number_below : ℤ → CalendarArg → Option ℤ
number_below limit (arg.Number n) = within_limit limit n
number_below limit (arg.Text text) = None
number_below limit arg.Other = None

-- a time: hour, minute, second
abbrev pub time_at : Option ℤ → Option ℤ → Option ℤ → Option (List ℤ)
time_at (Some h) (Some m) (Some s) = Some (h ∷ m ∷ s ∷ [])
time_at (Some h) (Some m) None = None
time_at (Some h) None s = None
time_at None m s = None

-- where a range begins or ends: hours are below 24, minutes and seconds below 60
abbrev pub hour_at : CalendarArg → Option (List ℤ)
hour_at h = time_at (number_below (pos 24) h) (Some (pos 0)) (Some (pos 0))

abbrev pub minute_at : CalendarArg → CalendarArg → Option (List ℤ)
minute_at h m = time_at (number_below (pos 24) h) (number_below (pos 60) m) (Some (pos 0))

abbrev pub second_at : CalendarArg → CalendarArg → CalendarArg → Option (List ℤ)
second_at h m s = time_at (number_below (pos 24) h) (number_below (pos 60) m) (number_below (pos 60) s)

abbrev pub time_of : Civil → List ℤ
time_of c = pos c.hour ∷ pos c.minute ∷ pos c.second ∷ []

-- the whole hour
abbrev pub is_hour : Civil → Option ℤ → Bool
is_hour c (Some h) = int_eq h (pos c.hour)
is_hour c None = false

-- from the first time up to and without the second
abbrev pub is_between : Civil → Option (List ℤ) → Option (List ℤ) → Bool
is_between c (Some from) (Some to) = is_in_span from to (time_of c)
is_between c (Some from) None = false
is_between c None to = false

-- the forms, one a line: an hour; two hours; two with minutes; two with minutes and seconds
abbrev pub is_in_time_form : Civil → List CalendarArg → Bool
is_in_time_form c (h ∷ []) = is_hour c (number_below (pos 24) h)
is_in_time_form c (h ∷ k ∷ []) = is_between c (hour_at h) (hour_at k)
is_in_time_form c (h ∷ m ∷ k ∷ n ∷ []) = is_between c (minute_at h m) (minute_at k n)
is_in_time_form c (h ∷ m ∷ s ∷ k ∷ n ∷ t ∷ []) = is_between c (second_at h m s) (second_at k n t)
is_in_time_form c args = false

abbrev pub is_in_time_range : Moments → List CalendarArg → Bool
is_in_time_range m args = is_in_time_form (clock_of m args) (form_of args)
