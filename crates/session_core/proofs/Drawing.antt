-- Numbers that were drawn before memory ran out.
use Rattle.std.proofs.Common.{ℕ, List, [], ◌∷◌, ◌++◌, refl, Option, Result, Ok, Err}
use Rattle.std.specs.Prelude.{OnErr}
use Rattle.pac_ports.specs.Dice.{DiceTold, Gave}
use Rattle.poll_loop.specs.Numbers.{GaveAll}
use Rattle.poll_loop.proofs.Logs.{gave-append}

-- some numbers were given
abbrev pub GaveSome : Option DiceTold → Option DiceTold → Type 0
GaveSome dice dice' = (more : List ℕ) × GaveAll dice more dice'

pub gave_none : (dice : Option DiceTold) → GaveSome dice dice
gave_none dice = ([], refl)

pub gave_one : (dice dice' : Option DiceTold) (number : ℕ) → Gave dice number dice' → GaveSome dice dice'
gave_one dice dice' number g = (number ∷ [], (dice', g, refl))

pub gave_more : (dice dice' dice'' : Option DiceTold) (numbers : List ℕ) → GaveAll dice numbers dice' → GaveSome dice' dice'' → GaveSome dice dice''
gave_more dice dice' dice'' numbers g s = (numbers ++ s.0, gave-append numbers s.0 dice dice' dice'' g s.1)

-- what holds holds at an error
pub at_error : {T E P : Type 0} (r : Result T E) → P → OnErr r P
at_error (Ok x) p = tt
at_error (Err e) p = p
