-- The beats of a log: its ticks, and 4,096 datagrams without a tick among them for one each.
use Rattle.std.specs.Prelude.{ℕ, ◌+◌, ◌/◌, Bool, List, [], ◌∷◌, ◌==◌, if◌then◌else◌}
use Rattle.poll_log.specs.declared.terms.TheConstants.{FLOOD}
use Rattle.poll_log.specs.Turns.{Turns, Begin, Then, Event, Given, Tick}

unfoldable pub events : Turns → ℕ
events (Begin sent) = 0
events (Then before event sent) = events before + 1

unfoldable pub ticks : Turns → ℕ
ticks (Begin sent) = 0
ticks (Then before Tick sent) = ticks before + 1
ticks (Then before (Given datagram) sent) = ticks before

abbrev pub one_more : List ℕ → List ℕ
one_more [] = []
one_more (count ∷ counts) = (count + 1) ∷ counts

-- How many datagrams there are in each stretch: behind the last tick, between two ticks, before the first one. The last
-- stretch comes first.
unfoldable pub stretches : Turns → List ℕ
stretches (Begin sent) = 0 ∷ []
stretches (Then before Tick sent) = 0 ∷ stretches before
stretches (Then before (Given datagram) sent) = one_more (stretches before)

-- each stretch counts its datagrams divided by the flood, rounded down
abbrev pub floods : List ℕ → ℕ
floods [] = 0
floods (count ∷ counts) = count / FLOOD + floods counts

unfoldable pub beats : Turns → ℕ
beats turns = ticks turns + floods (stretches turns)

-- whether the next event is a beat: it raises the number of beats by one
unfoldable pub is_beat : Turns → Event → Bool
is_beat turns event = beats (Then turns event []) == beats turns + 1

-- one for a beat, and else none
abbrev pub beat_of : Turns → Event → ℕ
beat_of turns event = if is_beat turns event then 1 else 0

abbrev pub first_or_none : List ℕ → ℕ
first_or_none [] = 0
first_or_none (count ∷ counts) = count

-- the datagrams behind the last tick
unfoldable pub last_stretch : Turns → ℕ
last_stretch turns = first_or_none (stretches turns)
