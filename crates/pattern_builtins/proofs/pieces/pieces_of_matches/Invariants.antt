use Rattle.std.proofs.Common.{◌≡◌, map, take}
use Rattle.pattern_builtins.specs.Pieces.{found_in, wholes}
use Rattle.pattern_builtins.proofs.pieces.pieces_of_matches.Given as goal

abbrev pub invariant-loop-found : goal.invariant-loop-found
invariant-loop-found l = l.pieces ≡ wholes (map found_in (take l.found-index l.matches))
