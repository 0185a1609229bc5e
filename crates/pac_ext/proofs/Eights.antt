-- The number of eight groups, by its halves.
use Rattle.std.proofs.Common.{◌≡◌, ℕ, ◌+◌, ◌*◌, List, [], ◌∷◌, length, get_or, Some, ap, arith}
use Rattle.pac_ext.specs.Groups.{address_of}

pub address_of-eight : (groups : List ℕ) (high low : ℕ) → length groups ≡ 8
    → high ≡ ((get_or groups 0 0 * 65536 + get_or groups 1 0) * 65536 + get_or groups 2 0) * 65536 + get_or groups 3 0
    → low ≡ ((get_or groups 4 0 * 65536 + get_or groups 5 0) * 65536 + get_or groups 6 0) * 65536 + get_or groups 7 0
    → Some (high * 18446744073709551616 + low) ≡ address_of groups
address_of-eight (a ∷ b ∷ c ∷ d ∷ e ∷ f ∷ g ∷ h ∷ []) high low eight upper lower = ap Some (omega arith)
address_of-eight _ high low eight upper lower = absurd (omega arith)
