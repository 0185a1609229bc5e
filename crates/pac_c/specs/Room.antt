-- What a caller in C is handed: a number, its room, and how many bytes there are to tell.
use Rattle.std.specs.Prelude.{◌≡◌, ◌⊎◌, ℕ, List, ◌++◌, Bool, nat_le, length, drop, if◌then◌else◌}
use Rattle.library_calls.specs.declared.told.Status.{Status}
use Rattle.library_calls.specs.declared.told.Status.TheVariants as status
use Rattle.library_calls.specs.Told.{Told, number_of}

pub record Handed : Type 0 where
  pub number : ℕ
  pub room : List ℕ
  pub whole : ℕ

abbrev pub fits : Told → List ℕ → Bool
fits told room = nat_le (length told.bytes) (length room)

-- the bytes stand at the front of the room, and what is behind them stays
abbrev pub written : Told → List ℕ → Handed
written told room =
    record { number = number_of told.status; room = told.bytes ++ drop (length told.bytes) room; whole = length told.bytes }

-- the status where the room is short: what isn't read keeps its own
abbrev pub if_short : Status → Status
if_short status.Done = status.Short
if_short status.NameWanted = status.Short
if_short other = other

-- the room is as it was
abbrev pub not_written : Told → List ℕ → Handed
not_written told room = record { number = number_of (if_short told.status); room = room; whole = length told.bytes }

abbrev pub handed : Told → List ℕ → Handed
handed told room = if fits told room then written told room else not_written told room

-- memory was refused
abbrev pub without_memory : List ℕ → Handed
without_memory room = record { number = number_of status.Memory; room = room; whole = 0 }

-- what is told is handed to a caller with this room, or memory was refused
abbrev pub Hands : Told → List ℕ → Handed → Type 0
Hands told room after = (after ≡ handed told room) ⊎ (after ≡ without_memory room)
