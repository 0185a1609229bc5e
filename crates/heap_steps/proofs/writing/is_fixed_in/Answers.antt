use Rattle.std.proofs.Common.{◌&&◌, sym, ap, ◌∙◌}
use Rattle.object_heap.specs.Heap.{object_at, own_marks_in}
use Rattle.heap_steps.specs.Works.{is_kept}
use Rattle.heap_steps.proofs.Fixed.{fixed, fixed_by}
use Rattle.heap_steps.proofs.writing.is_fixed_in.Goals as goal

pub returns-in-Plain : goal.returns-in-Plain
returns-in-Plain c = sym (ap (λ k. fixed_by k (object_at c.args.heap.now c.args.object) c.args.name.now) (sym c.kind.ensures ∙ c.in-Plain.is)) ∙ fixed (object_at c.args.heap.now c.args.object) c.args.name.now

pub returns-in-Array : goal.returns-in-Array
returns-in-Array c = sym (ap (λ k. fixed_by k (object_at c.args.heap.now c.args.object) c.args.name.now) (sym c.kind.ensures ∙ c.in-Array.is)) ∙ fixed (object_at c.args.heap.now c.args.object) c.args.name.now

pub returns-in-Function : goal.returns-in-Function
returns-in-Function c = c.is_named.ensures ∙ sym (ap (λ k. fixed_by k (object_at c.args.heap.now c.args.object) c.args.name.now) (sym c.kind.ensures ∙ c.in-Function.is)) ∙ fixed (object_at c.args.heap.now c.args.object) c.args.name.now

pub returns-then-is_named : goal.returns-then-is_named
returns-then-is_named c = sym (ap (λ k. fixed_by k (object_at c.args.heap.now c.args.object) c.args.name.now) (sym c.kind.ensures ∙ c.in-Native.is)
    ∙ ap (λ b. b && is_kept (own_marks_in (object_at c.args.heap.now c.args.object) c.args.name.now)) (sym c.is_named-in-Native.ensures ∙ c.if-is_named.true) ∙ sym c.is_kept.ensures) ∙ fixed (object_at c.args.heap.now c.args.object) c.args.name.now

pub returns-else-is_named : goal.returns-else-is_named
returns-else-is_named c = c.if-is_named.false ∙ sym (ap (λ k. fixed_by k (object_at c.args.heap.now c.args.object) c.args.name.now) (sym c.kind.ensures ∙ c.in-Native.is)
    ∙ ap (λ b. b && is_kept (own_marks_in (object_at c.args.heap.now c.args.object) c.args.name.now)) (sym c.is_named-in-Native.ensures ∙ c.if-is_named.false)) ∙ fixed (object_at c.args.heap.now c.args.object) c.args.name.now

pub returns-in-Error : goal.returns-in-Error
returns-in-Error c = sym (ap (λ k. fixed_by k (object_at c.args.heap.now c.args.object) c.args.name.now) (sym c.kind.ensures ∙ c.in-Error.is)) ∙ fixed (object_at c.args.heap.now c.args.object) c.args.name.now

pub returns-in-Pattern : goal.returns-in-Pattern
returns-in-Pattern c = c.tells_literal.ensures ∙ sym (ap (λ k. fixed_by k (object_at c.args.heap.now c.args.object) c.args.name.now) (sym c.kind.ensures ∙ c.in-Pattern.is)) ∙ fixed (object_at c.args.heap.now c.args.object) c.args.name.now
