-- The plans of the commands. Their talks over the link are those of polling; that of `generate` is over a link in memory.
use Rattle.std.specs.Prelude.{Option, Some, None, Result, Ok, Err}
use Rattle.pac_ports.specs.Sink.{SinkState}
use Rattle.pac_plan.specs.Plan.{Output, Plan, Program, Outside}
use Rattle.pac_plan.specs.Follows as plans
use Rattle.pac_plan.specs.Serves as served
use Rattle.pac_plan.specs.declared.status.Status.{Status}
use Rattle.poll_loop.specs.Task.{Talk}
use Rattle.pac_ask.specs.Talks.{talks}
use Rattle.memory_talk.specs.Talks.{MemoryTalk}
use Rattle.memory_talk.proofs.Answering.{answering}

abbrev pub CommandPlan : Type 0
CommandPlan = Plan Talk

abbrev pub CommandProgram : Type 0
CommandProgram = Program Talk

abbrev pub Follows : CommandPlan → Outside → Outside → Option Output → Type 0
Follows plan old new made = plans.Follows talks plan old new made

abbrev pub FollowsProgram : CommandProgram → Outside → Outside → Option Output → Type 0
FollowsProgram program old new made = plans.FollowsProgram talks program old new made

-- what a command does: a program whose talk is over the link of the outside, or over one in memory
pub data Doing : Type 0 where
  over_link : Program Talk → Doing
  in_memory : Program MemoryTalk → Doing

abbrev pub FollowsDoing : Doing → Outside → Outside → Option Output → Type 0
FollowsDoing (over_link program) old new made = plans.FollowsProgram talks program old new made
FollowsDoing (in_memory program) old new made = plans.FollowsProgram answering program old new made

unfoldable pub Serves : Doing → Outside → Outside → SinkState → SinkState → Status → Type 0
Serves (over_link program) old new out out' given = served.Serves talks program old new out out' given
Serves (in_memory program) old new out out' given = served.Serves answering program old new out out' given

-- goes on with what was read, or with why it is refused
abbrev pub if_read : {A E P : Type 0} → Result A E → (E → P) → (A → P) → P
if_read (Ok a) refused next = next a
if_read (Err e) refused next = refused e

-- goes on with what is there
abbrev pub if_there : {A : Type 0} → Option A → CommandPlan → (A → CommandPlan) → CommandPlan
if_there (Some a) absent next = next a
if_there None absent next = absent
