-- How the programs of the commands are followed.
use Rattle.std.proofs.Common.{◌≡◌, ℕ, ℤ, inl, inr, Option, Some, None, refl, subst}
use Rattle.pac_ports.specs.Clock.{ClockTold}
use Rattle.pac_plan.specs.Plan.{Outside, Output, Program, Talks, say, at_once, timed}
use Rattle.pac_plan.specs.Follows as plans
use Rattle.pac_plan.specs.Follows.{Gives, IsUnlessMemory}
use Rattle.pac_plan.specs.declared.status.Status.{Status}
use Rattle.pac_plan.proofs.Served as served
use Rattle.pac_ports.specs.Sink.{SinkState}
use Rattle.pac_ask.specs.Talks.{talks}
use Rattle.memory_talk.proofs.Answering.{answering}
use Rattle.poll_loop.specs.declared.looping.Upstream.{Upstream}
use Rattle.pac_words.specs.Commands.{Running}
use Rattle.pac_command.specs.declared.given.Given.{Given}
use Rattle.pac_command.specs.Plans.{CommandPlan, CommandProgram, Doing, over_link, in_memory, Follows, FollowsDoing, FollowsProgram, Serves}
use Rattle.pac_command.specs.Begun.{IsGiven, IsMoment, begun, begun_at, given_at}
use Rattle.pac_command.specs.Commands.{usage}

-- memory may run out before anything is done
at_first : {T : Type 0} (K : Talks T) (program : Program T) (o : Outside) → plans.FollowsProgram K program o o None
at_first K (at_once plan) o = inr (refl, refl)
at_first K (timed next) o = inr (refl, refl)

pub memory_first : (doing : Doing) (o : Outside) → FollowsDoing doing o o None
memory_first (over_link program) o = at_first talks program o
memory_first (in_memory program) o = at_first answering program o

-- what was followed and written was served
pub serves : (doing : Doing) (old new : Outside) (out out' : SinkState) (given : Status) (made : Option Output)
    → FollowsDoing doing old new made → Gives made given out out' → Serves doing old new out out' given
unfolding Serves
serves (over_link program) old new out out' given made followed gave = served.serves talks program old new out out' given made followed gave
serves (in_memory program) old new out out' given made followed gave = served.serves answering program old new out out' given made followed gave

pub says_usage : (o : Outside) (made : Option Output) → IsUnlessMemory usage made → FollowsProgram (at_once (say usage)) o o made
says_usage o made h = inl (refl, h)

abbrev with_clock : Outside → Option ClockTold → Outside
with_clock o clock = record o { clock = clock }

-- the plan at the moment was followed from behind the clock on
begins_at : (now : Option ℕ) (next : ℤ → CommandPlan) (moment : ℤ) (clock : Option ClockTold) (old new : Outside) (made : Option Output)
    → IsMoment now old.clock moment clock → Follows (next moment) (with_clock old clock) new made → FollowsProgram (begun_at now next) old new made
begins_at (Some seconds) next moment clock old new made is follows =
    inl (subst (λ (m : ℤ). Follows (next m) old new made) is.0 (subst (λ (c : Option ClockTold). Follows (next moment) (with_clock old c) new made) is.1 follows))
begins_at None next moment clock old new made is follows =
    inl (moment, subst (λ (c : Option ClockTold). Follows (next moment) (with_clock old c) new made) is follows)

-- so was the plan with what the runs are given
pub begins : (running : Running) (next : Given → CommandPlan) (given : Given) (clock : Option ClockTold) (old new : Outside) (made : Option Output)
    → IsGiven running old.clock given clock → Follows (next given) (with_clock old clock) new made → FollowsProgram (begun running next) old new made
begins running next given clock old new made is follows =
    begins_at running.now (λ seconds. next (given_at running seconds)) is.0 clock old new made is.1
    (subst (λ (g : Given). Follows (next g) (with_clock old clock) new made) is.2 follows)

-- who is asked is the same
pub by_upstream : (program : Upstream → CommandProgram) (one other : Upstream) (old new : Outside) (made : Option Output)
    → one ≡ other → FollowsProgram (program one) old new made → FollowsProgram (program other) old new made
by_upstream program one other old new made same h = subst (λ (u : Upstream). FollowsProgram (program u) old new made) same h
