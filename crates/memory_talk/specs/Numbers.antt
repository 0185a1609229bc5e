-- The numbers that counting dice give.
use Rattle.std.specs.Prelude.{ℕ, zero, suc, ◌%◌, List, [], ◌∷◌, ◌++◌}
use Rattle.pac_ports.specs.Dice.{DiceTold}

-- the i-th of them, counted from 0: i itself, in 16 bits
abbrev pub number_after : ℕ → ℕ
number_after i = i % 65536

-- the first n of them
abbrev pub first_numbers : ℕ → List ℕ
first_numbers zero = []
first_numbers (suc n) = first_numbers n ++ number_after n ∷ []

-- what dice tell that gave so many
abbrev pub counted : ℕ → DiceTold
counted n = record { given = first_numbers n; count = n }
