use Rattle.std.proofs.Common.{◌∙◌, None, Some, sym, ap}
use Rattle.std.specs.Option.{option_copied}
use Rattle.heap_objects.specs.Object.{marks_if}
use Rattle.heap_objects.specs.Layers.{left_of}
use Rattle.heap_objects.proofs.PlaceLemmas.{none_unless}
use Rattle.heap_objects.proofs.LayerLemmas.{in_own, in_rows}
use Rattle.heap_objects.proofs.layered.Layered.marks.Goals as goal

pub returns-in-Some : goal.returns-in-Some
returns-in-Some c =
    ap (λ m. Some m) c.marks_of.ensures
    ∙ ap marks_if (in_own (left_of c.self.inside.table) c.self.inside.own c.args.self.now c.args.name.now c.in-Some.property.now
    c.self.invariant.1 c.self.view_is c.in-Some.ensures)

pub returns-in-None : goal.returns-in-None
returns-in-None c =
    let own = sym (ap option_copied (none_unless _ c.in_default.not-Some)) ∙ c.get.ensures in
    ap marks_if (in_rows (left_of c.self.inside.table) c.self.inside.own c.args.self.now c.args.name.now None c.self.view_is own c.in-None.ensures)

pub returns-in-Some-row_in : goal.returns-in-Some-row_in
returns-in-Some-row_in c =
    let own = sym (ap option_copied (none_unless _ c.in_default.not-Some)) ∙ c.get.ensures in
    ap (λ m. Some m) c.marks_of_row.ensures
    ∙ ap marks_if (in_rows (left_of c.self.inside.table) c.self.inside.own c.args.self.now c.args.name.now _ c.self.view_is own c.in-Some-row_in.ensures)
