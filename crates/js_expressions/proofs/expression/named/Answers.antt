use Rattle.js_native_calls.proofs.Steps.{works_back, works_ends}
use Rattle.js_expressions.proofs.expression.named.Goals as goal

pub returns-in_err-value : goal.returns-in_err-value
returns-in_err-value c = works_ends _ _ _ _ _ c.from_residual.ensures.1 (c.in_err-value.ensures c.args.machine.now.context.this)

pub returns : goal.returns
returns c = works_back _ _ _ _ (c.in_ok-value.ensures c.args.machine.now.context.this)
