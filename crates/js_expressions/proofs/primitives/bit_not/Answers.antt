use Rattle.std.proofs.Common.{◌≡◌, sym, ap, ◌∙◌, rules}
use Rattle.js_machine.proofs.Steps.{works_then, works_stops}
use Rattle.js_native_calls.proofs.Steps.{gives_value}
use Rattle.heap_values.specs.declared.value.Value.TheVariants as value
use Rattle.js_machine.specs.Moves.{inner}
use Rattle.js_evaluation.specs.Parts.{calls}
use Rattle.std.specs.Prelude.{negsuc, neg_ℤ, ◌-ℤ◌}
use Rattle.std.proofs.Math.IntN.{+ℤ_comm}
use Rattle.js_expressions.proofs.primitives.bit_not.Goals as goal

pub returns-in_err-bits : goal.returns-in_err-bits
returns-in_err-bits c = λ m. works_stops _ _ _ _ _ _ c.from_residual.ensures.1 (rw c.to_number.ensures at (c.in_err-bits.ensures (calls (inner m)) m.state.heap))

pub returns : goal.returns
returns c = λ m. let inverse : c.inverted.result ≡ (negsuc 0 -ℤ c.in_ok-bits.bits) = search rules in let made : c.from.result ≡ c.inverted.result = search rules in works_then _ _ _ _ _ (rw c.to_number.ensures at (c.in_ok-bits.ensures (calls (inner m)) m.state.heap)) (gives_value _ _ _ (ap value.Number (sym (made ∙ inverse ∙ +ℤ_comm (negsuc 0) (neg_ℤ c.in_ok-bits.bits)))))
