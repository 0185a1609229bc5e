use Rattle.std.proofs.Common.{Ok, refl, sym, ap, ◌∙◌}
use Rattle.heap_values.specs.declared.ids.ScopeId.{ScopeId}
use Rattle.object_heap.specs.Heap.{slot_of}
use Rattle.js_evaluation.specs.BySlots.{read_bound}
use Rattle.heap_steps.specs.Works.{state_with}
use Rattle.heap_steps.proofs.Chains.{forgets, as_part}
use Rattle.heap_steps.proofs.names.read_name.Goals as goal

pub returns-in_err-read_slot-in-Slot : goal.returns-in_err-read_slot-in-Slot
returns-in_err-read_slot-in-Slot c = λ this. forgets _ _ c.from_residual.ensures.1 refl

pub returns-in_err-read_slot-in-Own : goal.returns-in_err-read_slot-in-Own
returns-in_err-read_slot-in-Own c = λ this. forgets _ _ c.from_residual-in_err-read_slot-in-Own.ensures.1 refl

pub returns-in_ok-read_slot-in-Slot : goal.returns-in_ok-read_slot-in-Slot
returns-in_ok-read_slot-in-Slot c = λ this. record {
  is = λ after fuel beside. ap (λ b. read_bound (record { scope = c.args.scope; this = this }) c.args.name.now.name b c.args.place after (state_with c.args.heap.now fuel beside)) c.in-Slot.is
      ∙ ap (λ v. after (Ok v) (state_with c.args.heap.now fuel beside)) (sym (c.in_ok-read_slot-in-Slot.ensures ∙ ap (λ (s : ScopeId). slot_of c.args.heap.now s c.in-Slot.slot) c.scope_out-holder.ensures));
}

pub returns-in_ok-read_slot-in-Own : goal.returns-in_ok-read_slot-in-Own
returns-in_ok-read_slot-in-Own c = λ this. record {
  is = λ after fuel beside. ap (λ b. read_bound (record { scope = c.args.scope; this = this }) c.args.name.now.name b c.args.place after (state_with c.args.heap.now fuel beside)) c.in-Own.is
      ∙ ap (λ v. after (Ok v) (state_with c.args.heap.now fuel beside)) (sym (c.in_ok-read_slot-in-Own.ensures ∙ ap (λ (s : ScopeId). slot_of c.args.heap.now s 0) c.scope_out-holder-in-Own.ensures));
}

pub returns-in-Global : goal.returns-in-Global
returns-in-Global c = λ this. as_part _ (λ after fuel beside. ap (λ b. read_bound (record { scope = c.args.scope; this = this }) c.args.name.now.name b c.args.place after (state_with c.args.heap.now fuel beside)) c.in-Global.is) c.read_global.ensures

pub returns-in-Unbound : goal.returns-in-Unbound
returns-in-Unbound c = λ this. record { is = λ after fuel beside. ap (λ b. read_bound (record { scope = c.args.scope; this = this }) c.args.name.now.name b c.args.place after (state_with c.args.heap.now fuel beside)) c.in-Unbound.is }
