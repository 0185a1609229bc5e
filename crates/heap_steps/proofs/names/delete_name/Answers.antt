use Rattle.std.proofs.Common.{ap}
use Rattle.js_evaluation.specs.BySlots.{delete_bound}
use Rattle.heap_steps.specs.Works.{state_with}
use Rattle.heap_steps.proofs.Bounds.{by_number}
use Rattle.heap_steps.proofs.Chains.{as_part}
use Rattle.heap_steps.proofs.names.delete_name.Goals as goal

pub returns-in-Global : goal.returns-in-Global
returns-in-Global c = as_part _ (λ after fuel beside. ap (λ b. delete_bound c.args.name.now.name b c.args.place after (state_with c.args.heap.now fuel beside)) c.in-Global.is) (rw (by_number _ _ c.built_in.ensures) at c.delete_property.ensures)

pub returns-in-Slot : goal.returns-in-Slot
returns-in-Slot c = record { is = λ after fuel beside. ap (λ b. delete_bound c.args.name.now.name b c.args.place after (state_with c.args.heap.now fuel beside)) c.in-Slot.is }

pub returns-in-Own : goal.returns-in-Own
returns-in-Own c = record { is = λ after fuel beside. ap (λ b. delete_bound c.args.name.now.name b c.args.place after (state_with c.args.heap.now fuel beside)) c.in-Own.is }

pub returns-in-Unbound : goal.returns-in-Unbound
returns-in-Unbound c = record { is = λ after fuel beside. ap (λ b. delete_bound c.args.name.now.name b c.args.place after (state_with c.args.heap.now fuel beside)) c.in-Unbound.is }
