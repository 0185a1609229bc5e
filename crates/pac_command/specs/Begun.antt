-- What the runs of a command are given, from the words and the clock.
use Rattle.std.specs.Prelude.{◌≡◌, ℕ, ℤ, pos, Option, Some, None}
use Rattle.pac_ports.specs.Clock.{ClockTold, with_moment}
use Rattle.pac_plan.specs.Plan.{at_once, timed}
use Rattle.pac_words.specs.Commands.{Running}
use Rattle.pac_command.specs.declared.given.Given.{Given}
use Rattle.pac_command.specs.Plans.{CommandPlan, CommandProgram}

-- what each run is given where a command begins at a moment, in seconds since 1970 in UTC
abbrev pub given_at : Running → ℤ → Given
given_at running seconds = record {
  start = seconds;
  zone = running.zone;
  settings = record { my_ip = running.my_ip };
  fuel = running.fuel;
}

-- at the moment of the words, or behind that of the clock
abbrev pub begun_at : Option ℕ → (ℤ → CommandPlan) → CommandProgram
begun_at (Some seconds) next = at_once (next (pos seconds))
begun_at None next = timed next

-- goes on with what each run is given
abbrev pub begun : Running → (Given → CommandPlan) → CommandProgram
begun running next = begun_at running.now (λ seconds. next (given_at running seconds))

-- ---- what the code has

-- the moment is that of the words, or the clock gave it
abbrev pub IsMoment : Option ℕ → Option ClockTold → ℤ → Option ClockTold → Type 0
IsMoment (Some seconds) old moment new = (moment ≡ pos seconds) × (new ≡ old)
IsMoment None old moment new = new ≡ with_moment moment old

-- what each run is given where a command begins at such a moment
abbrev pub IsGiven : Running → Option ClockTold → Given → Option ClockTold → Type 0
IsGiven running old given new = (moment : ℤ) × IsMoment running.now old moment new × (given ≡ given_at running moment)
