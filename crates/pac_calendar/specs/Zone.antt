-- Zones as texts: one fixed offset.
use Rattle.std.specs.Prelude.{ℕ, ◌+◌, ◌-◌, ◌*◌, Bool, ◌&&◌, ◌||◌, nat_eq, nat_le, List, [], ◌∷◌, codes, bytes_eq, Option, Some, None, ℤ, pos, neg_ℤ, if◌then◌else◌}
use Rattle.std.specs.Char.{is_ascii_digit}

-- the number that two digits write, where it is no more than that
abbrev pub two_digits : ℕ → ℕ → ℕ → Option ℕ
two_digits most tens ones =
    if is_ascii_digit tens && is_ascii_digit ones && nat_le ((tens - 48) * 10 + (ones - 48)) most
    then Some ((tens - 48) * 10 + (ones - 48)) else None

abbrev pub signed_seconds : Bool → Option ℕ → Option ℕ → Option ℤ
signed_seconds is_behind (Some hours) (Some minutes) =
    Some (if is_behind then neg_ℤ (pos (hours * 3600 + minutes * 60)) else pos (hours * 3600 + minutes * 60))
signed_seconds is_behind (Some hours) None = None
signed_seconds is_behind None minutes = None

-- a sign (`+` is 43, `-` is 45), two digits of hours, `:` (58), two digits of minutes
abbrev pub offset_of : List ℕ → Option ℤ
offset_of (s ∷ a ∷ b ∷ colon ∷ c ∷ d ∷ []) = if nat_eq colon 58 && (nat_eq s 43 || nat_eq s 45)
    then signed_seconds (nat_eq s 45) (two_digits 23 a b) (two_digits 59 c d) else None
offset_of text = None

abbrev pub zone_of_text : List ℕ → Option ℤ
zone_of_text text = if bytes_eq text (codes "UTC") then Some (pos 0) else offset_of text
