use Rattle.std.proofs.Common.{refl, ap}
use Rattle.js_evaluation.specs.Objects.{written}
use Rattle.heap_steps.specs.Works.{state_with}
use Rattle.heap_steps.proofs.Chains.{forgets, as_part, bad_length, unwritten}
use Rattle.heap_steps.proofs.writing.not_stored.Goals as goal

pub returns-in_err-message-in-BadLength : goal.returns-in_err-message-in-BadLength
returns-in_err-message-in-BadLength c = λ stored why. forgets _ _ c.from_residual.ensures.1 refl

pub returns-in_ok-message-in-BadLength : goal.returns-in_ok-message-in-BadLength
returns-in_ok-message-in-BadLength c = λ stored why. as_part _
    (λ after fuel beside. ap (λ r. written c.args.place r after (state_with c.args.heap.now fuel beside)) (bad_length stored _ c.in-BadLength.is why))
    (rw c.in_ok-message-in-BadLength.ensures at c.throw_error.ensures)

pub returns-in_default : goal.returns-in_default
returns-in_default c = λ stored why. rw c.refused.ensures (unwritten _ _ _ stored _ c.in_default.not-BadLength why)
