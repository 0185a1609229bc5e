-- The address that an IPv6 text writes (RFC 4291, section 2.2).
use Rattle.std.specs.Prelude.{ℕ, ◌+◌, ◌-◌, ◌/◌, ◌%◌, List, [], ◌∷◌, ◌++◌, ◌==◌, nat_le, length, take, drop, replicate, codes, if◌then◌else◌, Option, Some, None, option_map, option_and_then}
use Rattle.std.specs.List.{slice_split}
use Rattle.utf16_text.specs.Search.{first_place}
use Rattle.pac_names.specs.Quads.{quad_of}
use Rattle.pac_ext.specs.declared.side.Ending.{Ending}
use Rattle.pac_ext.specs.declared.side.Ending.TheVariants.{Group, GroupOrQuad}
use Rattle.pac_ext.specs.Groups.{is_group, group_in, address_of}

-- the one group that a piece writes
abbrev pub one_in : List ℕ → Option (List ℕ)
one_in piece = option_map (λ group. group ∷ []) (group_in piece)

-- the two groups that a dotted quad writes
abbrev pub two_in : List ℕ → Option (List ℕ)
two_in piece = option_map (λ quad. quad / 65536 ∷ quad % 65536 ∷ []) (quad_of piece)

-- the groups that the last piece of a side writes
abbrev pub last_in : Ending → List ℕ → Option (List ℕ)
last_in Group piece = one_in piece
last_in GroupOrQuad piece = if is_group piece then one_in piece else two_in piece

-- some groups and others behind them, where both are there
abbrev pub joined : Option (List ℕ) → Option (List ℕ) → Option (List ℕ)
joined None others = None
joined (Some groups) others = option_map (λ more. groups ++ more) others

-- the groups that pieces write
abbrev pub groups_in : Ending → List (List ℕ) → Option (List ℕ)
groups_in ending [] = Some []
groups_in ending (piece ∷ []) = last_in ending piece
groups_in ending (piece ∷ next ∷ rest) = joined (one_in piece) (groups_in ending (next ∷ rest))

-- the groups of a side: none where nothing stands there, else those between colons (58)
abbrev pub side_in : Ending → List ℕ → Option (List ℕ)
side_in ending [] = Some []
side_in ending (u ∷ us) = groups_in ending (slice_split (λ c. c == 58) (u ∷ us))

-- these groups, where there are no more than an address has
abbrev pub at_most_eight : Option (List ℕ) → Option (List ℕ)
at_most_eight None = None
at_most_eight (Some groups) = if nat_le (length groups) 8 then Some groups else None

-- the address of the groups before `::` and behind it, where it stands for one zero group at least
abbrev pub filled : Option (List ℕ) → Option (List ℕ) → Option ℕ
filled None tail = None
filled (Some head) None = None
filled (Some head) (Some tail) =
    if nat_le (length head + length tail) 7
    then address_of (head ++ replicate (8 - (length head + length tail)) 0 ++ tail)
    else None

-- the address of a text whose first `::` stands at this place
abbrev pub address_around : Option ℕ → List ℕ → Option ℕ
address_around None text = option_and_then address_of (side_in GroupOrQuad text)
address_around (Some place) text = filled (side_in Group (take place text)) (side_in GroupOrQuad (drop (place + 2) text))

-- the address that a text writes
abbrev pub ipv6_of : List ℕ → Option ℕ
ipv6_of text = address_around (first_place (codes "::") text 0) text
