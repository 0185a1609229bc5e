use Rattle.std.proofs.Common.{arith, refl, sym}
use Rattle.js_machine.specs.Moves.{resumed}
use Rattle.js_statements.proofs.for_loop.for_tested.Goals as goal

pub returns-then-to_boolean : goal.returns-then-to_boolean
returns-then-to_boolean c = rw (sym c.to_boolean.ensures, c.if-to_boolean.true, resumed) c.for_body.ensures

pub returns-else-to_boolean : goal.returns-else-to_boolean
returns-else-to_boolean c = record { goes = λ last. rw (sym c.to_boolean.ensures, c.if-to_boolean.false) refl; light = omega arith }
