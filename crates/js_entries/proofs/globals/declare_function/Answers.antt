use Rattle.std.proofs.Common.{◌∙◌, ap, refl, sym}
use Rattle.object_heap.specs.Heap.{object_at}
use Rattle.heap_steps.specs.Works.{state_with}
use Rattle.heap_steps.proofs.Chains.{as_part, forgets}
use Rattle.heap_steps.proofs.Bounds.{by_number}
use Rattle.js_evaluation.specs.State.{Does}
use Rattle.js_entries.proofs.Properties.{over_way, over_none}
use Rattle.js_evaluation.specs.Entries.{own_property}
use Rattle.js_evaluation.specs.Objects.{global_id}
use Rattle.js_entries.proofs.globals.declare_function.Goals as goal

pub returns-in_err-gives_way : goal.returns-in_err-gives_way
returns-in_err-gives_way c = forgets _ _ c.from_residual.ensures.1 refl

pub returns-then-branch : goal.returns-then-branch
returns-then-branch c = as_part _ (λ after fuel beside. ap (λ (p : Does (Unit {0})). p after (state_with c.args.heap.now fuel beside)) (over_way (own_property (object_at c.args.heap.now global_id) c.args.name.now) c.args.name.now c.args.function (sym (rw (by_number _ _ c.built_in-global.ensures) at c.in_ok-gives_way.ensures) ∙ c.if-branch.true))) (rw (by_number _ _ c.built_in-global.ensures) at c.define.ensures)

pub returns-else-branch : goal.returns-else-branch
returns-else-branch c = as_part _ (λ after fuel beside. ap (λ (p : Does (Unit {0})). p after (state_with c.args.heap.now fuel beside)) (over_none (own_property (object_at c.args.heap.now global_id) c.args.name.now) c.args.name.now c.args.function (sym (rw (by_number _ _ c.built_in-global.ensures) at c.in_ok-gives_way.ensures) ∙ c.if-branch.false))) c.throw_type_error.ensures
