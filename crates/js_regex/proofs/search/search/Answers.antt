use Rattle.std.proofs.Common.{◌≤◌, ◌∙◌, length, arith, sym}
use Rattle.js_pattern.specs.Search.{subject_of}
use Rattle.js_regex.proofs.Finds.{search_refused, so_far_found, so_far_missed}
use Rattle.js_regex.proofs.search.search.Goals as goal

pub returns-in-Err : goal.returns-in-Err
returns-in-Err c =
    let within : c.loop-place.place ≤ length c.args.text.now = omega arith in
    search_refused c.args.pattern.now c.args.text.now c.args.from c.args.fuel.now c.loop-place.place c.loop-place.fuel
    c.run_from.new.fuel c.in-Err.answer c.run_from.new.state
    c.units.result.now c.flags.result c.root-root.result.now c.from-count.result
    c.units.ensures.value c.flags.ensures c.root-root.ensures.tree (c.from-count.ensures ∙ c.groups.ensures.count)
    c.loop-place.invariant within (rw c.in-Err.is at c.run_from.ensures)

pub returns-in-Ok-true : goal.returns-in-Ok-true
returns-in-Ok-true c =
    let within : c.loop-place.place ≤ length c.args.text.now = omega arith in
    let ended = rw (c.in-Ok-true.is, c.in-Ok-true.field-0-test) at c.run_from.ensures in
    let ran = rw (c.units.ensures.value, c.flags.ensures, c.root-root.ensures.tree, c.from-count.ensures, c.groups.ensures.count) at ended in
    let all = so_far_found (subject_of c.args.pattern.now c.args.text.now) c.args.pattern.now.tree c.args.pattern.now.groups
    c.args.from c.args.fuel.now c.loop-place.place c.loop-place.fuel c.loop-place.invariant within c.run_from.new.fuel _ ran
    in
    rw (c.found.ensures.0, c.found.ensures.1, c.found.ensures.2) (sym (all.0), all.1)

pub loop-place-preserved : goal.loop-place-preserved
loop-place-preserved c =
    let within : c.loop-place.place ≤ length c.args.text.now = omega arith in
    let ended = rw (c.in-Ok-false.is, c.in-Ok-false.field-0-test) at c.run_from.ensures in
    let ran = rw (c.units.ensures.value, c.flags.ensures, c.root-root.ensures.tree, c.from-count.ensures, c.groups.ensures.count) at ended in
    so_far_missed (subject_of c.args.pattern.now c.args.text.now) c.args.pattern.now.tree c.args.pattern.now.groups
    c.args.from c.args.fuel.now c.loop-place.place c.loop-place.fuel c.loop-place.invariant within c.run_from.new.fuel ran
