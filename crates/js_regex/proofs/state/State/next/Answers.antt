use Rattle.std.proofs.Common.{refl}
use Rattle.js_regex.proofs.Lists.{list_end}
use Rattle.js_regex.proofs.Steps.{popped}
use Rattle.js_regex.proofs.state.State.next.Goals as goal

pub returns-in-Some-Turn : goal.returns-in-Some-Turn
returns-in-Some-Turn c =
    let top = rw c.in-Some-Turn.is at c.in_ok-pop-in-empty.ensures in
    (λ s. rw (list_end c.args.terms.now c.in-empty.len_below) (popped s _ _ _ (rw c.in-Some-Turn.field-0-is at top)), refl)
