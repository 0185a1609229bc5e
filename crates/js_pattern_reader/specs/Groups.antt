-- How many groups a pattern keeps, which is known before it is read (NCapturingParens of ECMA-262 5.1, 15.10.2.1).
use Rattle.std.specs.Prelude.{ℕ, suc, Bool, true, false, not, ◌&&◌, nat_eq, if◌then◌else◌, List, [], ◌∷◌}

abbrev pub begins_with : ℕ → List ℕ → Bool
begins_with v [] = false
begins_with v (u ∷ us) = nat_eq u v

-- Each `(` (40) that no `?` (63) follows, but behind a backslash (92) or within a class, from `[` (91) to `]` (93). The
-- tests say whether the first unit is behind a backslash, and whether it is in a class.
abbrev pub groups_from : Bool → Bool → List ℕ → ℕ
groups_from escaped within [] = 0
groups_from true within (u ∷ us) = groups_from false within us
groups_from false true (u ∷ us) = groups_from (nat_eq u 92) (not (nat_eq u 93)) us
groups_from false false (u ∷ us) =
    if nat_eq u 40 && not (begins_with 63 us) then suc (groups_from false false us)
    else groups_from (nat_eq u 92) (nat_eq u 91) us

abbrev pub groups_in : List ℕ → ℕ
groups_in us = groups_from false false us
