use Rattle.std.proofs.Common.{ℕ, List, [], refl, ap}
use Rattle.js_machine.proofs.Steps.{forgets, works_then, works_stops, with_heap}
use Rattle.js_native_calls.proofs.Steps.{moves_as}
use Rattle.js_native_calls.proofs.Objects.{text_of_message}
use Rattle.js_machine.specs.Moves.{inner, run_state}
use Rattle.js_evaluation.specs.Parts.{calls}
use Rattle.js_evaluation.specs.State.{Does}
use Rattle.js_evaluation.specs.Handed as handed
use Rattle.js_evaluation.specs.Natives as natives
use Rattle.run_trees.specs.Runs.{◌>>=◌}
use Rattle.js_convert.specs.Texts.{text_of}
use Rattle.js_native_calls.proofs.errors.error_named.Goals as goal

pub returns-in_err-name : goal.returns-in_err-name
returns-in_err-name c = forgets _ _ c.from_residual.ensures.1 refl

pub returns-in_err-key : goal.returns-in_err-key
returns-in_err-key c = forgets _ _ c.from_residual-in_err-key.ensures.1 refl

pub returns-in_err-message : goal.returns-in_err-message
returns-in_err-message c = works_stops _ _ _ _ _ _ c.from_residual-in_err-message.ensures.1 (rw c.in_ok-key.ensures at c.in_err-message.ensures)

pub returns-in-Object : goal.returns-in-Object
returns-in-Object c = works_then _ _ _ _ _ (rw c.in_ok-key.ensures at c.in_ok-message.ensures) (rw c.in-Object.is (rw c.in_ok-name.ensures at c.convert.ensures))

pub returns-in_err-message-in-Undefined : goal.returns-in_err-message-in-Undefined
returns-in_err-message-in-Undefined c = forgets _ _ c.from_residual-in_err-message-in-Undefined.ensures.1 refl

pub returns-in-Undefined : goal.returns-in-Undefined
returns-in-Undefined c = works_then _ _ _ _ _ (rw c.in_ok-key.ensures at c.in_ok-message.ensures) (rw c.in-Undefined.is (rw (c.in_ok-name.ensures, c.in_ok-message-in-Undefined.ensures) at c.give_joined.ensures))

pub returns : goal.returns
returns c = works_then _ _ _ _ _ (rw c.in_ok-key.ensures at c.in_ok-message.ensures) (moves_as _ (with_heap c.args.machine.now c.get.new.heap) (handed.gives_text (natives.joined (text_of c.args.name.now) (text_of c.in_ok-message.message)) c.args.place) _ _ (λ after. ap (λ (p : Does (List ℕ)). (p >>= (λ message. handed.gives_text (natives.joined (text_of c.args.name.now) message) c.args.place)) after (run_state (with_heap c.args.machine.now c.get.new.heap).state)) (text_of_message (calls (inner c.args.machine.now)) [] _ c.args.place c.in_default.not-Object c.in_default.not-Undefined)) (rw c.in_ok-name.ensures at c.error_message.ensures))
