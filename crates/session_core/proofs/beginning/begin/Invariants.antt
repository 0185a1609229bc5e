use Rattle.std.proofs.Common.{◌≡◌, ℕ, ◌+◌, length}
use Rattle.pac_names.specs.Names.{Name}
use Rattle.session_core.specs.Beginning.{Begins}
use Rattle.session_core.specs.Waiting.{AreFilled, waits_at, waits_in}
use Rattle.session_core.proofs.beginning.begin.Given as goal

abbrev pub invariant-loop-run : goal.invariant-loop-run
invariant-loop-run g l =
    record {
      moment : Begins g.R.Run.gives g.R.Run.tree l.yielded l.fn.lookups l.lookups (g.D.Dice.told l.fn.dice) (g.D.Dice.told l.dice) l.sessions.items l.asked.items;
      ran : l.runs ≡ l.fn.runs + length l.yielded;
      left : length l.yielded + length l.run-iterator.rest.items ≡ length l.fn.all.items;
      waits : (name : Name) (at : ℕ) → waits_in l.waiting name at ≡ waits_at name l.sessions.items at;
      filled : AreFilled l.waiting;
    }
