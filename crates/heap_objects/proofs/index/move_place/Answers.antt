use Rattle.std.proofs.Common.{rules, cond, ap, sym, ◌∙◌, is_some}
use Rattle.std.specs.Ordering.{nat_cmp}
use Rattle.std.specs.BTreeMap.{get}
use Rattle.std.specs.Cmp.Lexicographic.{slice_cmp}
use Rattle.std.specs.Option.{option_copied_mut}
use Rattle.std.specs.Str.{bytes_eq}
use Rattle.heap_objects.proofs.PlaceLemmas.{updated_from, moved_some}
use Rattle.heap_objects.proofs.index.move_place.Goals as goal

pub returns-in-Some : goal.returns-in-Some
returns-in-Some c = λ other.
    let places = get (slice_cmp nat_cmp) c.args.places.now in
    let held = ap is_some (sym c.get_mut.ensures.value ∙ ap option_copied_mut c.in-Some.is) in
    updated_from _ _ _ _ ((c.get_mut.follows.holds c.args.place).3 (search rules)).0 other
    ∙ ap (λ place. cond (bytes_eq c.args.name.now other) place (places other)) (sym (moved_some (places c.args.name.now) c.args.place held))
