use Rattle.std.proofs.Common.{arith, refl}
use Rattle.js_machine.proofs.Steps.{forgets}
use Rattle.js_expressions.proofs.expression.this.Goals as goal

pub returns-in_err-value : goal.returns-in_err-value
returns-in_err-value c = forgets _ _ c.from_residual.ensures.1 refl

pub returns : goal.returns
returns c = record { goes = λ last. rw c.in_ok-value.ensures refl; light = omega arith }
