use Rattle.std.proofs.Common.{refl}
use Rattle.js_native_calls.proofs.Steps.{gives}
use Rattle.js_primary.proofs.literals.end_of_array.Goals as goal

pub returns-then-hole : goal.returns-then-hole
returns-then-hole c = rw c.if-hole.true c.length_written.ensures

pub returns : goal.returns
returns c = rw c.if-hole.false (gives _ _ _ (λ after. refl))
