use Rattle.std.proofs.Common.{ap, arith, length}
use Rattle.pattern_builtins.proofs.Searching.{wholes_within}
use Rattle.pattern_builtins.proofs.pieces.pieces_of_matches.Goals as goal

pub returns-clause-within : goal.returns-clause-within
returns-clause-within c =
    wholes_within c.args.matches.now c.loop-found.pieces c.loop-found.found-index c.loop-found.invariant
    (omega (arith, ap length c.as_slice-found-items.ensures))
