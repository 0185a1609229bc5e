-- Rows of zero groups.
use Rattle.std.specs.Prelude.{ℕ, ◌+◌, List, [], ◌∷◌, ◌==◌, max, if◌then◌else◌}
use Rattle.std.specs.List.{position_or_len}
use Rattle.pac_ext.specs.declared.row.Row.{Row}

-- how many zeros the groups begin with
abbrev pub zero_row : List ℕ → ℕ
zero_row [] = 0
zero_row (group ∷ groups) = if group == 0 then 1 + zero_row groups else 0

-- the lengths of the rows of zeros that begin at each group
abbrev pub zero_rows : List ℕ → List ℕ
zero_rows [] = []
zero_rows (group ∷ groups) = zero_row (group ∷ groups) ∷ zero_rows groups

-- the greatest of some numbers
abbrev pub greatest : List ℕ → ℕ
greatest [] = 0
greatest (n ∷ ns) = max n (greatest ns)

-- the longest row of zeros, the first one of that length
abbrev pub longest_row : List ℕ → Row
longest_row groups =
    let longest = greatest (zero_rows groups) in
    record { start = position_or_len (λ length. length == longest) (zero_rows groups); length = longest }
