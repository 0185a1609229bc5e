use Rattle.std.proofs.Common.{rules, ◌≡◌, subst}
use Rattle.heap_elements.specs.Properties.{without_property}
use Rattle.heap_elements.specs.Places.{NamesDiffer}
use Rattle.heap_elements.proofs.RowLemmas.{NamesDiffer-without}
use Rattle.heap_elements.proofs.row.remove_in_row.Goals as goal

pub returns-in-Some-clause-differ : goal.returns-in-Some-clause-differ
returns-in-Some-clause-differ c = λ h.
    let after : without_property c.args.row.now.items c.args.name.now ≡ c.remove-gone.new.self.items = search rules in
    subst NamesDiffer after (NamesDiffer-without c.args.row.now.items c.args.name.now h)
