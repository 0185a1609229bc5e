-- What a call leaves that serves a program.
use Rattle.std.specs.Prelude.{◌≡◌, ◌⊎◌, ℤ, Option}
use Rattle.pac_ports.specs.Clock.{with_moment}
use Rattle.pac_ports.specs.Sink.{SinkState}
use Rattle.pac_plan.specs.Plan.{Output, Plan, Program, at_once, timed, Outside, Talks}
use Rattle.pac_plan.specs.Follows.{Follows, Gives}
use Rattle.pac_plan.specs.Complete.{IsComplete}
use Rattle.pac_plan.specs.Order.{KeepsOrder}
use Rattle.pac_plan.specs.declared.status.Status.{Status}
use Rattle.pac_plan.specs.declared.status.Status.TheVariants as status

-- The plan was followed and its answer written, in the order and with the completeness that every plan keeps.
pub record ServesPlan {T : Type 0} (K : Talks T) (plan : Plan T) (old new : Outside) (out out' : SinkState) (given : Status) : Type 0 where
  -- the answer, or none where memory ran out
  pub made : Option Output
  pub followed : Follows K plan old new made
  pub gave : Gives made given out out'
  pub complete : IsComplete K plan made old new out out' given
  pub order : KeepsOrder plan old new out out' given

-- memory ran out before anything was done
pub record HasNoMemory (old new : Outside) (out out' : SinkState) (given : Status) : Type 0 where
  pub status : given ≡ status.Memory
  pub outside : new ≡ old
  pub sink : out' ≡ out

-- a plan at once, or behind one moment that the clock gives; or memory ran out before
abbrev pub Serves : {T : Type 0} → Talks T → Program T → Outside → Outside → SinkState → SinkState → Status → Type 0
Serves K (at_once plan) old new out out' given = ServesPlan K plan old new out out' given ⊎ HasNoMemory old new out out' given
Serves K (timed next) old new out out' given =
    ((m : ℤ) × ServesPlan K (next m) (record old { clock = with_moment m old.clock }) new out out' given) ⊎ HasNoMemory old new out out' given
