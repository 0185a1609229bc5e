use Rattle.std.proofs.Common.{sym, subst}
use Rattle.heap_elements.specs.Places.{NamesDiffer}
use Rattle.heap_objects.specs.Forms.{RowDiffers}
use Rattle.heap_elements.proofs.RowLemmas.{NamesDiffer-with}
use Rattle.heap_objects.proofs.properties.Properties.set.Goals as goal

pub invariant_of-self-then-len-lt-FEW : goal.invariant_of-self-then-len-lt-FEW
invariant_of-self-then-len-lt-FEW c =
    subst NamesDiffer (sym c.in_ok-set_in_row-in-Row.ensures.ok)
    (NamesDiffer-with c.in-Row.row.items c.args.name.now c.args.property (subst RowDiffers c.in-Row.is c.self.invariant))
