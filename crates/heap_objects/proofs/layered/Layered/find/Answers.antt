use Rattle.std.proofs.Common.{◌∙◌, ◌≡◌, None, IfOk, Option, sym, ap, subst}
use Rattle.std.specs.Option.{option_copied}
use Rattle.heap_values.specs.declared.property.Property.{Property}
use Rattle.heap_objects.specs.Object.{found_property}
use Rattle.heap_objects.specs.Layers.{left_of}
use Rattle.heap_objects.proofs.PlaceLemmas.{none_unless}
use Rattle.heap_objects.proofs.LayerLemmas.{in_own, in_rows}
use Rattle.heap_objects.proofs.layered.Layered.find.Goals as goal

pub returns-in-Some : goal.returns-in-Some
returns-in-Some c =
    let is = in_own (left_of c.self.inside.table) c.self.inside.own c.args.self.now c.args.name.now c.in-Some.property.now
    c.self.invariant.1 c.self.view_is c.in-Some.ensures in
    subst (λ (p : Option Property). IfOk c.found_in_property.result (λ found. found ≡ found_property p)) is c.found_in_property.ensures

pub returns-in-None : goal.returns-in-None
returns-in-None c =
    let own = sym (ap option_copied (none_unless _ c.in_default.not-Some)) ∙ c.get.ensures in
    ap found_property (in_rows (left_of c.self.inside.table) c.self.inside.own c.args.self.now c.args.name.now None c.self.view_is own c.in-None.ensures)

pub returns-in-Some-row_in : goal.returns-in-Some-row_in
returns-in-Some-row_in c =
    let own = sym (ap option_copied (none_unless _ c.in_default.not-Some)) ∙ c.get.ensures in
    let is = in_rows (left_of c.self.inside.table) c.self.inside.own c.args.self.now c.args.name.now _ c.self.view_is own c.in-Some-row_in.ensures in
    subst (λ (p : Option Property). IfOk c.found_in_row.result (λ found. found ≡ found_property p)) is c.found_in_row.ensures
