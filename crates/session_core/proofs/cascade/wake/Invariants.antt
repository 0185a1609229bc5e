use Rattle.std.proofs.Common.{drop}
use Rattle.session_core.proofs.Cascading.{IsRerun}
use Rattle.session_core.proofs.cascade.wake.Given as goal

abbrev pub invariant-loop-place : goal.invariant-loop-place
invariant-loop-place g l =
    IsRerun g.R.Run.gives g.R.Run.tree l.name l.fn.roster.all.items l.roster.all.items l.roster.waiting l.fn.lookups l.lookups (g.D.Dice.told l.fn.dice) (g.D.Dice.told l.dice) l.asked.items l.fn.runs l.runs (drop l.place-index l.place-items)
