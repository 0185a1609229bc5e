-- Dice over a list of numbers.
use Rattle.std.specs.Prelude.{ℕ, List, [], ◌∷◌, ◌++◌, slice_index, zero, suc}
use Rattle.pac_ports.specs.Dice.{DiceTold}
use Rattle.pac_ports.specs.Faults.{raised}

pub record ListDiceState : Type 0 where
  pub numbers : List ℕ
  -- how many were given; the count stays at its last number
  pub count : ℕ

-- the number that comes next: those of the list in order, and 0 after their end
abbrev pub next_number : ListDiceState → ℕ
next_number d = slice_index d.numbers d.count

-- the first n numbers
abbrev pub dealt : List ℕ → ℕ → List ℕ
dealt numbers zero = []
dealt numbers (suc n) = dealt numbers n ++ slice_index numbers n ∷ []

-- what they tell as dice
abbrev pub dice_of : ListDiceState → DiceTold
dice_of d = record { given = dealt d.numbers d.count; count = d.count }

-- with a number more given
abbrev pub with_number : ListDiceState → ListDiceState
with_number d = record d { count = raised d.count }
