use Rattle.std.proofs.Common.{arith, refl}
use Rattle.js_machine.proofs.Steps.{works_then, works_stops}
use Rattle.js_machine.specs.Moves.{inner}
use Rattle.js_evaluation.specs.Parts.{calls}
use Rattle.js_expressions.proofs.primitives.minus.Goals as goal

pub returns-in_err-number : goal.returns-in_err-number
returns-in_err-number c = λ m. works_stops _ _ _ _ _ _ c.from_residual.ensures.1 (rw c.to_number.ensures at (c.in_err-number.ensures (calls (inner m)) m.state.heap))

pub returns : goal.returns
returns c = λ m. works_then _ _ _ _ _ (rw c.to_number.ensures at (c.in_ok-number.ensures (calls (inner m)) m.state.heap)) record { goes = λ last. rw c.negative.ensures refl; light = omega arith }
