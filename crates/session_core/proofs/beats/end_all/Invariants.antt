use Rattle.std.proofs.Common.{◌≡◌, ℕ, ◌<◌, get_or, length, take}
use Rattle.session_core.specs.declared.session.Session.{Session}
use Rattle.session_core.specs.Waiting.{ended_where, has}
use Rattle.session_core.proofs.beats.end_all.Given as goal

abbrev pub invariant-loop-place : goal.invariant-loop-place
invariant-loop-place g l =
    record {
      long : length l.sessions ≡ length l.fn.sessions;
      ended : (at : ℕ) (d : Session g.row.R.Denot g.row.O.Denot) → at < length l.fn.sessions → get_or l.sessions at d ≡ ended_where (has (take l.place-index l.places) at) l.name (get_or l.fn.sessions at d);
    }
