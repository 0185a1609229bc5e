use Rattle.std.proofs.Common.{Ok, refl, sym, ap, ◌∙◌}
use Rattle.js_machine.proofs.Steps.{forgets}
use Rattle.js_native_calls.proofs.Steps.{gives}
use Rattle.heap_values.specs.declared.value.Value.TheVariants as value
use Rattle.js_machine.specs.Moves.{run_state}
use Rattle.js_expressions.proofs.unary.type_done.Goals as goal

pub returns-in_err-text : goal.returns-in_err-text
returns-in_err-text c = forgets _ _ c.from_residual.ensures.1 refl

pub returns : goal.returns
returns c = gives _ _ _ (λ after. ap (λ t. after (Ok (value.Text t)) (run_state c.args.machine.now.state)) (sym (c.in_ok-text.ensures ∙ c.type_name-name.ensures)))
