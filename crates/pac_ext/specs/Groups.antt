-- Groups: the eight numbers of 16 bits in which an IPv6 address is written (RFC 4291, section 2.2).
use Rattle.std.specs.Prelude.{ℕ, ◌+◌, ◌*◌, ◌/◌, ◌%◌, ◌^◌, List, [], ◌∷◌, Bool, ◌&&◌, ◌==◌, nat_le, length, map, fold, if◌then◌else◌, Option, Some, None}
use Rattle.std.specs.List.{list_all}
use Rattle.utf16_text.specs.Digits.{is_hexadecimal, value_of}

-- one to four hexadecimal digits
abbrev pub is_group : List ℕ → Bool
is_group piece = nat_le 1 (length piece) && nat_le (length piece) 4 && list_all is_hexadecimal piece

-- the group that a piece of a text writes
abbrev pub group_in : List ℕ → Option ℕ
group_in piece = if is_group piece then Some (value_of 16 piece) else None

-- the number whose groups these are, the first one highest
abbrev pub number_of : List ℕ → ℕ
number_of groups = fold (λ number group. number * 65536 + group) 0 groups

-- the address of eight groups
abbrev pub address_of : List ℕ → Option ℕ
address_of groups = if length groups == 8 then Some (number_of groups) else None

-- the eight groups of an address, the highest first: each above so many bits
abbrev pub groups_of : ℕ → List ℕ
groups_of address = map (λ bits. address / 2 ^ bits % 65536) (112 ∷ 96 ∷ 80 ∷ 64 ∷ 48 ∷ 32 ∷ 16 ∷ 0 ∷ [])
