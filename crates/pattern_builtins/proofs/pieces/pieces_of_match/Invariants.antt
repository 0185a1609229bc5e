use Rattle.std.proofs.Common.{◌≡◌, ◌∷◌, take}
use Rattle.pattern_builtins.specs.Pieces.{found_in, whole}
use Rattle.pattern_builtins.proofs.pieces.pieces_of_match.Given as goal

abbrev pub invariant-loop-group : goal.invariant-loop-group
invariant-loop-group l = l.pieces ≡ whole (found_in l.found) ∷ take l.group-index l.groups
