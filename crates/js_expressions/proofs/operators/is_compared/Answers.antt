use Rattle.std.proofs.Common.{refl, sym}
use Rattle.js_expressions.proofs.operators.is_compared.Goals as goal

pub returns-then-is_beside : goal.returns-then-is_beside
returns-then-is_beside c = λ call. rw (sym c.is_beside.ensures, c.if-is_beside.true) refl

pub returns-else-is_beside : goal.returns-else-is_beside
returns-else-is_beside c = λ call. rw (sym c.is_beside.ensures, c.if-is_beside.false) c.is_beside-else-is_beside.ensures
