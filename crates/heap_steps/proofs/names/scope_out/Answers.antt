use Rattle.std.proofs.Common.{◌≡◌, ◌<◌, ◌-◌, ℕ, arith, sym, ap, ◌∙◌}
use Rattle.heap_values.specs.declared.ids.ScopeId.{ScopeId}
use Rattle.heap_steps.proofs.Bounds.{out_some}
use Rattle.js_evaluation.specs.BySlots.{scope_out}
use Rattle.heap_steps.proofs.names.scope_out.Goals as goal

pub loop-left-preserved : goal.loop-left-preserved
loop-left-preserved c = let some : 0 < c.loop-left.left = omega arith in
    c.loop-left.invariant ∙ out_some c.args.heap.now c.loop-left.left c.loop-left.scope some ∙ ap (λ (s : ScopeId). scope_out c.args.heap.now (c.loop-left.left - 1) s) (sym c.around-scope.ensures)

pub returns : goal.returns
returns c = let none : c.loop-left.left ≡ 0 = omega arith in sym (c.loop-left.invariant ∙ ap (λ (n : ℕ). scope_out c.args.heap.now n c.loop-left.scope) none)
