use Rattle.std.proofs.Common.{◌∙◌, ◌≡◌, ◌-◌, length, true, slice_get, sym, ap, subst, arith}
use Rattle.std.specs.Vec.{vec_len}
use Rattle.heap_elements.specs.Elements.{elements_of, AreRising, is_gap}
use Rattle.heap_elements.proofs.ElementLemmas.{gap_dropped}
use Rattle.heap_elements.proofs.elements.drop_empty_end.Goals as goal

pub loop-slots-preserved-in-loop-slots-4 : goal.loop-slots-preserved-in-loop-slots-4
loop-slots-preserved-in-loop-slots-4 c =
    let slots = c.loop-slots.slots.items in
    let last = vec_len c.loop-slots.slots - 1 in
    let is_last : last ≡ length slots - 1 = omega arith in
    let empty : is_gap (slice_get slots last) ≡ true =
    ap (λ k. is_gap (slice_get slots k)) is_last
    ∙ ap (λ ss. is_gap (slice_get ss (length ss - 1))) (sym c.deref.ensures.value) ∙ sym c.ends_empty.ensures ∙ c.loop-slots-test.true in
    let dropped = gap_dropped slots last c.loop-slots.invariant.1 is_last empty in
    (ap elements_of c.pop-empty.ensures.rest ∙ dropped.0 ∙ c.loop-slots.invariant.0, subst (AreRising 0) (sym c.pop-empty.ensures.rest) dropped.1)
