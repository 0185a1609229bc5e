use Rattle.std.proofs.Common.{◌∙◌, ◌<◌, sym, ap, map, set, None, length, arith}
use Rattle.heap_objects.specs.Slots.{standing}
use Rattle.heap_objects.specs.TableRows.{TableView, slots_in, left_in, row_read}
use Rattle.heap_objects.proofs.PlaceLemmas.{no_property, taken_away, none_unless}
use Rattle.heap_elements.proofs.RowLemmas.{without_property-missing}
use Rattle.heap_objects.proofs.TableLemmas.{slots_of-marked}
use Rattle.heap_objects.proofs.table_rows.TableRows.remove.Goals as goal

pub returns-in-Some-clause-after : goal.returns-in-Some-clause-after
returns-in-Some-clause-after c =
    let gone = c.self.inside.gone in
    let at = c.in-Some.at in
    let place = sym c.place_of.ensures.place ∙ c.in-Some.is in
    let there : at < length gone = omega (arith, c.in-Some.ensures.within, c.requires.few, c.self.invariant) in
    ap standing (slots_of-marked (map row_read c.self.inside.rows.now) gone at there)
    ∙ ap (λ (t : TableView). standing (set (slots_in t) at None)) c.self.view_is
    ∙ (taken_away (slots_in c.args.self.now) c.args.name.now at c.requires.differ place).listed

pub returns-in_default-clause-after : goal.returns-in_default-clause-after
returns-in_default-clause-after c =
    let place = sym c.place_of.ensures.place ∙ none_unless _ c.in_default.not-Some in
    sym (without_property-missing (left_in c.args.self.now) c.args.name.now (no_property (slots_in c.args.self.now) c.args.name.now place))
