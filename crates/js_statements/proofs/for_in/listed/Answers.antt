use Rattle.std.proofs.Common.{refl}
use Rattle.js_machine.proofs.Steps.{forgets}
use Rattle.js_statements.proofs.Listing.{lists_then, lists_stops}
use Rattle.js_statements.proofs.for_in.listed.Goals as goal

pub returns-in_err-names : goal.returns-in_err-names
returns-in_err-names c = forgets _ _ c.from_residual.ensures.1 refl

pub returns-in_err-charge_names : goal.returns-in_err-charge_names
returns-in_err-charge_names c = lists_stops c.args.machine.now c.args.looped c.args.object _ _ c.in_ok-names.ensures _ _ c.from_residual-in_err-charge_names.ensures.1 (rw c.as_slice.ensures at c.in_err-charge_names.ensures)

pub returns : goal.returns
returns c = lists_then c.args.machine.now c.args.looped c.args.object _ _ c.in_ok-names.ensures _ _ (rw c.as_slice.ensures at c.in_ok-charge_names.ensures) (rw c.new.ensures at c.next_name.ensures)
