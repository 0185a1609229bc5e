use Rattle.std.proofs.Common.{◌≤◌, length, ap, arith}
use Rattle.pattern_builtins.proofs.Searching.{so_far_closer, so_far_found}
use Rattle.pattern_builtins.proofs.matches.search_all.Goals as goal

pub loop-place-smaller : goal.loop-place-smaller
loop-place-smaller c =
    let found = rw c.in-Ok-Some.field-0-is at c.in-Ok-Some.ensures.finds in
    let within : c.loop-place.place ≤ length c.args.text.now = omega (arith, ap length c.units-end.ensures.value) in
    rw c.next_place-place.ensures
    (so_far_closer c.args.pattern.now c.args.text.now c.args.fuel.now c.loop-place.matches c.loop-place.place c.loop-place.fuel c.loop-place.invariant
    c.find.new.fuel c.in-Ok-Some.found found within)

pub loop-place-preserved : goal.loop-place-preserved
loop-place-preserved c =
    let found = rw c.in-Ok-Some.field-0-is at c.in-Ok-Some.ensures.finds in
    rw (c.next_place-place.ensures, c.in_ok-push-in-Ok-Some.ensures.ok)
    (so_far_found c.args.pattern.now c.args.text.now c.args.fuel.now c.loop-place.matches c.loop-place.place c.loop-place.fuel c.loop-place.invariant
    c.find.new.fuel c.in-Ok-Some.found found)
