use Rattle.std.proofs.Common.{◌∙◌, ◌+◌, Some, ap, sym, subst, refl, length}
use Rattle.std.specs.Ordering.{nat_cmp}
use Rattle.std.specs.BTreeMap.{get}
use Rattle.std.specs.Cmp.Lexicographic.{slice_cmp}
use Rattle.std.proofs.lemmas.Option.{slice_get_read}
use Rattle.heap_objects.proofs.PlaceLemmas.{IsMovedUpTo, moved_past, moved_past_gap, none_unless}
use Rattle.heap_objects.proofs.index.move_places.Goals as goal
use Rattle.heap_objects.proofs.index.move_places.Goals.{in-Some, in_default}

pub loop-at-preserved : goal.loop-at-preserved
loop-at-preserved c =
    let row = c.args.row.now in
    let at = c.loop-at.at in
    let before = get (slice_cmp nat_cmp) c.args.places.now in
    let slot = slice_get_read row (length row) at c.index-row-at.result refl c.loop-at-test.true c.index-row-at.is in
    elim c.match-row-at.branch [
      | in-Some w ↦
          subst (λ places. IsMovedUpTo before row (at + 1) (get (slice_cmp nat_cmp) places)) (sym w.places-is)
          (moved_past before row at w.in-Some.entry _ _ c.requires.differ c.requires.same (slot ∙ ap (λ s. Some s) w.in-Some.is) c.loop-at.invariant w.move_place.ensures)
      | in_default w ↦
          subst (λ places. IsMovedUpTo before row (at + 1) (get (slice_cmp nat_cmp) places)) (sym w.places-is)
          (moved_past_gap before row at _ (slot ∙ ap (λ s. Some s) (none_unless _ w.in_default.not-Some)) c.loop-at.invariant)
    ]
