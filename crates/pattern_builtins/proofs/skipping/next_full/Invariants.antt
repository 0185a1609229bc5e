use Rattle.pattern_builtins.specs.Pieces.{found_in}
use Rattle.pattern_builtins.specs.Skipping.{last}
use Rattle.pattern_builtins.proofs.FullParts.{Furthest}
use Rattle.pattern_builtins.proofs.skipping.next_full.Given as goal

abbrev pub invariant-loop-kind : goal.invariant-loop-kind
invariant-loop-kind l = Furthest l.text (found_in l.found) (last l.left l.by) l.kind l.most
