use Rattle.std.proofs.Common.{◌≡◌, drop}
use Rattle.session_core.specs.Waiting.{IsKept, ended_all}
use Rattle.session_core.proofs.beats.bury.Given as goal

abbrev pub invariant-loop-name : goal.invariant-loop-name
invariant-loop-name g l =
    record {
      sessions : ended_all (drop l.name-index l.dead) l.roster.all.items ≡ ended_all l.dead l.initial.roster.all.items;
      kept : IsKept l.roster;
    }
