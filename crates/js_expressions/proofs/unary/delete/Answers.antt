use Rattle.std.proofs.Common.{sym}
use Rattle.js_expressions.proofs.unary.delete.Goals as goal

pub returns-then-is_target : goal.returns-then-is_target
returns-then-is_target c = rw (sym c.is_target.ensures, c.if-is_target.true) c.refer.ensures

pub returns : goal.returns
returns c = rw (sym c.is_target.ensures, c.if-is_target.false) c.evaluate.ensures
