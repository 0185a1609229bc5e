use Rattle.std.proofs.Common.{◌∙◌, ◌∷◌, [], length, length-append, ap, arith}
use Rattle.shared_list.specs.Slots.{merged}
use Rattle.shared_list.specs.declared.slot.Slot.TheVariants.{Shared}
use Rattle.shared_list.proofs.PartLemmas.{merged-more}
use Rattle.shared_list.proofs.parts.fill.Goals as goal

pub loop-place-preserved : goal.loop-place-preserved
loop-place-preserved g c =
    let slots = c.loop-place.written.items in
    let more = c.in_ok-push.ensures.items in (
      omega (arith, c.loop-place.invariant.0, ap length more, length-append slots (Shared ∷ [])),
      λ xs. ap (merged xs) more ∙ merged-more xs slots ∙ c.loop-place.invariant.1 xs,
    )
