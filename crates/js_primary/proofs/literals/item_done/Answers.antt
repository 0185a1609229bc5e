use Rattle.std.proofs.Common.{refl}
use Rattle.js_machine.proofs.Steps.{forgets, works_then, works_stops}
use Rattle.js_primary.proofs.literals.item_done.Goals as goal

pub returns-in_err-define_at : goal.returns-in_err-define_at
returns-in_err-define_at c = works_stops _ _ _ _ _ _ c.from_residual.ensures.1 c.in_err-define_at.ensures

pub returns-in_err-count : goal.returns-in_err-count
returns-in_err-count c = forgets _ _ c.from_residual-in_err-count.ensures.1 refl

pub returns : goal.returns
returns c = works_then _ _ _ _ _ c.in_ok-define_at.ensures (rw c.in_ok-count.ensures at c.items_from.ensures)
