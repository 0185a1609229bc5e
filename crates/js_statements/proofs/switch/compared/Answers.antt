use Rattle.std.proofs.Common.{sym}
use Rattle.js_machine.specs.Moves.{resumed}
use Rattle.js_statements.proofs.switch.compared.Goals as goal

pub returns-then-strict_equals : goal.returns-then-strict_equals
returns-then-strict_equals c = rw (sym c.strict_equals.ensures, c.if-strict_equals.true, resumed) c.body_from.ensures

pub returns : goal.returns
returns c = rw (sym c.strict_equals.ensures, c.if-strict_equals.false, resumed) c.from_match.ensures
