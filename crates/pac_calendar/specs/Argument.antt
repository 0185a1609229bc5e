-- The arguments of a range: whose clock counts, and the names that they may be.
use Rattle.std.specs.Prelude.{ℕ, ◌-◌, List, [], ◌∷◌, Bool, false, nat_eq, if◌then◌else◌, Option, codes, length, take, position}
use Rattle.std.specs.Cmp.Lexicographic.{pointwise}
use Rattle.pac_calendar.specs.declared.argument.CalendarArg.{CalendarArg}
use Rattle.pac_calendar.specs.declared.argument.CalendarArg.TheVariants as arg
use Rattle.pac_calendar.specs.declared.moment.Civil.{Civil}
use Rattle.pac_calendar.specs.declared.moment.Moments.{Moments}

-- whether two texts are unit for unit the same
abbrev pub same : List ℕ → List ℕ → Bool
same = pointwise nat_eq

-- the argument is this text
abbrev pub is_text_of : List ℕ → CalendarArg → Bool
is_text_of letters (arg.Text text) = same text letters
is_text_of letters (arg.Number n) = false
is_text_of letters arg.Other = false

-- the last argument is the text `GMT`
abbrev pub ends_in_gmt : List CalendarArg → Bool
ends_in_gmt [] = false
ends_in_gmt (a ∷ []) = is_text_of (codes "GMT") a
ends_in_gmt (a ∷ b ∷ more) = ends_in_gmt (b ∷ more)

-- then it is taken off
abbrev pub form_of : List CalendarArg → List CalendarArg
form_of args = if ends_in_gmt args then take (length args - 1) args else args

-- and the clock in GMT counts, else the local one
abbrev pub clock_of : Moments → List CalendarArg → Civil
clock_of m args = if ends_in_gmt args then m.gmt else m.local

-- the place of the argument among names, from 0
abbrev pub place_of : List (List ℕ) → CalendarArg → Option ℕ
place_of names a = position (λ name. is_text_of name a) names
