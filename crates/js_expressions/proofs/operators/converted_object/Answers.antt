use Rattle.std.proofs.Common.{refl, sym}
use Rattle.js_expressions.proofs.operators.converted_object.Goals as goal

pub returns-then-takes_primitives : goal.returns-then-takes_primitives
returns-then-takes_primitives c = λ call. rw (c.in-Object.is, sym (rw c.in-Object.is at (c.takes_primitives.ensures call)), c.if-takes_primitives.true) refl

pub returns-else-takes_primitives : goal.returns-else-takes_primitives
returns-else-takes_primitives c = λ call. rw (c.in-Object.is, sym (rw c.in-Object.is at (c.takes_primitives.ensures call)), c.if-takes_primitives.false) refl
