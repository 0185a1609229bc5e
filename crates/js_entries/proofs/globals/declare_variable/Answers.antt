use Rattle.std.proofs.Common.{◌∙◌, ap, refl, sym}
use Rattle.heap_steps.specs.Works.{state_with}
use Rattle.heap_steps.proofs.Chains.{as_part, forgets}
use Rattle.heap_steps.proofs.Bounds.{by_number}
use Rattle.object_heap.specs.Heap.{found_of}
use Rattle.js_evaluation.specs.Entries.{declared_unless}
use Rattle.js_evaluation.specs.Parts.{outside}
use Rattle.js_entries.proofs.globals.declare_variable.Goals as goal

pub returns-in_err-get : goal.returns-in_err-get
returns-in_err-get c = forgets _ _ c.from_residual.ensures.1 refl

pub returns-in-Absent : goal.returns-in-Absent
returns-in-Absent c = as_part _ (λ after fuel beside. ap (λ f. declared_unless f c.args.name.now outside after (state_with c.args.heap.now fuel beside)) (sym (c.in_ok-get.ensures ∙ ap (λ id. found_of c.args.heap.now id c.args.name.now) (by_number _ _ c.built_in-global.ensures)) ∙ c.in-Absent.is)) (rw (by_number _ _ c.built_in-global.ensures) at c.define.ensures)

pub returns-in-Value : goal.returns-in-Value
returns-in-Value c = record { is = λ after fuel beside. ap (λ f. declared_unless f c.args.name.now outside after (state_with c.args.heap.now fuel beside)) (sym (c.in_ok-get.ensures ∙ ap (λ id. found_of c.args.heap.now id c.args.name.now) (by_number _ _ c.built_in-global.ensures)) ∙ c.in-Value.is) }

pub returns : goal.returns
returns c = record { is = λ after fuel beside. ap (λ f. declared_unless f c.args.name.now outside after (state_with c.args.heap.now fuel beside)) (sym (c.in_ok-get.ensures ∙ ap (λ id. found_of c.args.heap.now id c.args.name.now) (by_number _ _ c.built_in-global.ensures)) ∙ c.in-LeftOut.is) }
