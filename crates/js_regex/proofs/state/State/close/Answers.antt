use Rattle.std.proofs.Common.{refl}
use Rattle.js_pattern.specs.Walk.{After}
use Rattle.js_regex.proofs.Steps.{set_off}
use Rattle.js_regex.proofs.state.State.close.Goals as goal

pub returns-in-None : goal.returns-in-None
returns-in-None c = λ s. rw c.in-None.is refl

pub returns-in_ok-set_group-in-Some : goal.returns-in_ok-set_group-in-Some
returns-in_ok-set_group-in-Some c = λ s. rw c.in-Some.is (set_off s _ (λ (k : After). k) _ _ c.in_ok-set_group-in-Some.ensures)
