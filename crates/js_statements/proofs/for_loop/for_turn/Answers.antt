use Rattle.std.proofs.Common.{◌<◌, arith, refl}
use Rattle.js_statements.proofs.Turns.{for_some}
use Rattle.js_statements.proofs.for_loop.for_turn.Goals as goal

pub returns : goal.returns
returns c = let some : 0 < c.args.turns = omega arith in rw (for_some _ _ _ _ _ some) c.for_test.ensures

pub returns-then-turns-eq0 : goal.returns-then-turns-eq0
returns-then-turns-eq0 c = record { goes = λ last. rw c.if-turns-eq0.true refl; light = tt }
