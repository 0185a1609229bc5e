use Rattle.std.proofs.Common.{ap}
use Rattle.js_evaluation.specs.Conversions.{operated}
use Rattle.heap_steps.specs.Works.{state_with}
use Rattle.heap_steps.proofs.Chains.{as_part}
use Rattle.heap_steps.proofs.Operators.{operator_refused}
use Rattle.heap_steps.proofs.primitives.operate.Goals as goal

pub returns-in-Ok : goal.returns-in-Ok
returns-in-Ok c = λ call. as_part _ (λ after fuel beside. ap (λ r. operated call r c.args.place after (state_with c.args.heap.now fuel beside)) c.in-Ok.ensures.ok) c.counted.ensures

pub returns-in-Err : goal.returns-in-Err
returns-in-Err c = λ call. rw c.unconverted.ensures (operator_refused call _ _ _ _ c.in-Err.ensures.err)
