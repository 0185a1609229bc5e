use Rattle.std.proofs.Common.{refl, sym, ap, ◌∙◌}
use Rattle.heap_values.specs.declared.value.Value.{Value}
use Rattle.heap_values.specs.declared.value.Value.TheVariants as value
use Rattle.object_heap.specs.Heap.{found_of}
use Rattle.js_evaluation.specs.BySlots.{read_or_undefined_by}
use Rattle.js_evaluation.specs.State.{Does}
use Rattle.js_evaluation.specs.Objects.{found_value}
use Rattle.heap_steps.specs.Works.{state_with}
use Rattle.heap_steps.proofs.Bounds.{by_number, stands}
use Rattle.heap_steps.proofs.Chains.{forgets, as_part}
use Rattle.heap_steps.proofs.names.read_or_undefined.Goals as goal

pub returns-in_err-found-in-Global : goal.returns-in_err-found-in-Global
returns-in_err-found-in-Global c = λ this. forgets _ _ c.from_residual.ensures.1 refl

pub returns-in_ok-found-in-Global : goal.returns-in_ok-found-in-Global
returns-in_ok-found-in-Global c = λ this. as_part _ (λ after fuel beside. ap (λ b. read_or_undefined_by (record { scope = c.args.scope; this = this }) c.args.name.now b c.args.place after (state_with c.args.heap.now fuel beside)) c.in-Global.is
    ∙ ap (λ f. found_value value.Undefined f c.args.place after (state_with c.args.heap.now fuel beside)) (sym (c.in_ok-found-in-Global.ensures ∙ ap (λ id. found_of c.args.heap.now id c.args.name.now.name) (by_number _ _ c.built_in-global.ensures)))) (c.found_value.ensures _)

pub returns-in_default : goal.returns-in_default
returns-in_default c = λ this. as_part _ (λ after fuel beside. ap (λ (p : Does Value). p after (state_with c.args.heap.now fuel beside)) (stands (record { scope = c.args.scope; this = this }) c.args.name.now c.args.name.now.bound c.args.place c.in_default.not-Global)) (c.read_name.ensures this)
