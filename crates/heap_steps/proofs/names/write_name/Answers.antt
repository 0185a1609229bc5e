use Rattle.std.proofs.Common.{Ok, sym, ap, ◌∙◌}
use Rattle.heap_values.specs.declared.ids.ScopeId.{ScopeId}
use Rattle.object_heap.specs.Heap.{slot_written_of}
use Rattle.js_evaluation.specs.BySlots.{write_bound}
use Rattle.heap_steps.specs.Works.{state_with}
use Rattle.heap_steps.proofs.Bounds.{by_number}
use Rattle.heap_steps.proofs.Chains.{as_part}
use Rattle.heap_steps.proofs.names.write_name.Goals as goal

pub returns-in_ok-write_slot-in-Slot : goal.returns-in_ok-write_slot-in-Slot
returns-in_ok-write_slot-in-Slot c = λ this. record {
  is = λ after fuel beside. ap (λ b. write_bound (record { scope = c.args.scope; this = this }) c.args.name.now.name b c.args.value c.args.place after (state_with c.args.heap.now fuel beside)) c.in-Slot.is
      ∙ sym (ap (λ k. after (Ok tt) (state_with k fuel beside)) (c.in_ok-write_slot-in-Slot.ensures.after ∙ ap (λ (s : ScopeId). slot_written_of c.args.heap.now s c.in-Slot.slot c.args.value) c.scope_out-holder.ensures));
}

pub returns-in-Own : goal.returns-in-Own
returns-in-Own c = λ this. record { is = λ after fuel beside. ap (λ b. write_bound (record { scope = c.args.scope; this = this }) c.args.name.now.name b c.args.value c.args.place after (state_with c.args.heap.now fuel beside)) c.in-Own.is }

pub returns-in-Global : goal.returns-in-Global
returns-in-Global c = λ this. as_part _ (λ after fuel beside. ap (λ b. write_bound (record { scope = c.args.scope; this = this }) c.args.name.now.name b c.args.value c.args.place after (state_with c.args.heap.now fuel beside)) c.in-Global.is) (rw (by_number _ _ c.built_in-global.ensures) at c.put_on.ensures)

pub returns-in-Unbound : goal.returns-in-Unbound
returns-in-Unbound c = λ this. record { is = λ after fuel beside. ap (λ b. write_bound (record { scope = c.args.scope; this = this }) c.args.name.now.name b c.args.value c.args.place after (state_with c.args.heap.now fuel beside)) c.in-Unbound.is }
