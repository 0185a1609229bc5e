-- The plain spelling of an IPv6 address (RFC 5952, section 4).
use Rattle.std.specs.Prelude.{ℕ, ◌+◌, ◌/◌, ◌%◌, List, [], ◌∷◌, ◌++◌, ◌==◌, nat_le, map, take, drop, codes, if◌then◌else◌}
use Rattle.std.specs.List.{flat_map, join_with_byte}
use Rattle.std.specs.Char.{digit_char}
use Rattle.pac_ext.specs.declared.row.Row.{Row}
use Rattle.pac_ext.specs.Groups.{groups_of}
use Rattle.pac_ext.specs.Rows.{longest_row}

-- digits without the zeros (48) at their front; the last digit stays
abbrev pub without_leading_zeros : List ℕ → List ℕ
without_leading_zeros [] = []
without_leading_zeros (digit ∷ []) = digit ∷ []
without_leading_zeros (digit ∷ next ∷ rest) = if digit == 48 then without_leading_zeros (next ∷ rest) else digit ∷ next ∷ rest

-- the four hexadecimal digits of a group, in lower case
abbrev pub four_digits : ℕ → List ℕ
four_digits group = digit_char (group / 4096 % 16) ∷ digit_char (group / 256 % 16) ∷ digit_char (group / 16 % 16) ∷ digit_char (group % 16) ∷ []

-- a group as it is written
abbrev pub group_text : ℕ → List ℕ
group_text group = without_leading_zeros (four_digits group)

-- the digit that counts units of so much, where the group is as large as one
abbrev pub digit_above : ℕ → ℕ → List ℕ
digit_above unit group = if nat_le unit group then digit_char (group / unit % 16) ∷ [] else []

-- groups with colons (58) between them
abbrev pub between_colons : List ℕ → List ℕ
between_colons groups = join_with_byte 58 (map group_text groups)

-- groups with a colon before each
abbrev pub behind_colons : List ℕ → List ℕ
behind_colons groups = flat_map (λ group. 58 ∷ group_text group) groups

-- groups with `::` in place of a row
abbrev pub shortened : List ℕ → Row → List ℕ
shortened groups row = between_colons (take row.start groups) ++ codes "::" ++ between_colons (drop (row.start + row.length) groups)

-- groups whose longest row of zeros is this one: it is shortened where it has two or more
abbrev pub groups_text : List ℕ → Row → List ℕ
groups_text groups row = if nat_le 2 row.length then shortened groups row else between_colons groups

-- an address as it is written
abbrev pub ipv6_text : ℕ → List ℕ
ipv6_text address = groups_text (groups_of address) (longest_row (groups_of address))
