-- The last of the arguments of a range.
use Rattle.std.proofs.Common.{◌≡◌, List, [], ◌∷◌, ◌++◌, codes, refl}
use Rattle.pac_calendar.specs.declared.argument.CalendarArg.{CalendarArg}
use Rattle.pac_calendar.specs.Argument.{is_text_of, ends_in_gmt}

pub ends_in_gmt-last : (front : List CalendarArg) (last : CalendarArg) → ends_in_gmt (front ++ last ∷ []) ≡ is_text_of (codes "GMT") last
ends_in_gmt-last [] last = refl
ends_in_gmt-last (a ∷ []) last = refl
ends_in_gmt-last (a ∷ b ∷ more) last = ends_in_gmt-last (b ∷ more) last
