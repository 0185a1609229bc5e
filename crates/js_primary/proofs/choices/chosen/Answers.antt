use Rattle.std.proofs.Common.{sym}
use Rattle.js_frames.specs.RestOf.{after_expression}
use Rattle.js_primary.proofs.choices.chosen.Goals as goal

pub returns-then-to_boolean : goal.returns-then-to_boolean
returns-then-to_boolean c = rw (sym c.to_boolean.ensures, c.if-to_boolean.true, after_expression) c.evaluate.ensures

pub returns-else-to_boolean : goal.returns-else-to_boolean
returns-else-to_boolean c = rw (sym c.to_boolean.ensures, c.if-to_boolean.false, after_expression) c.evaluate-else-to_boolean.ensures
