-- What a counter of beats keeps.
use Rattle.std.specs.Prelude.{◌≡◌, ℕ, ◌%◌}
use Rattle.poll_log.specs.declared.terms.TheConstants.{FLOOD}
use Rattle.poll_log.specs.Turns.{Turns}
use Rattle.poll_log.specs.Beats.{last_stretch}

-- so many datagrams of the log came since its last tick or its last beat
abbrev pub HasCounted : ℕ → Turns → Type 0
HasCounted datagrams turns = datagrams ≡ last_stretch turns % FLOOD
