-- The numbers that dice gave, one after another.
use Rattle.std.specs.Prelude.{◌≡◌, ℕ, List, [], ◌∷◌, Option, map}
use Rattle.pac_ports.specs.Dice.{DiceTold, Gave}
use Rattle.poll_log.specs.Turns.{Outgoing, Turns}
use Rattle.poll_log.specs.Questions.{asked_in, firsts, new_among}

-- these numbers were given, in order
abbrev pub GaveAll : Option DiceTold → List ℕ → Option DiceTold → Type 0
GaveAll old [] new = new ≡ old
GaveAll old (number ∷ numbers) new = (mid : Option DiceTold) × Gave old number mid × GaveAll mid numbers new

-- the numbers of the questions that are sent for the first time in the next turn
abbrev pub newly_drawn : Turns → List Outgoing → List ℕ
newly_drawn turns sent = map (λ q. q.id) (new_among (firsts turns) (asked_in sent))
