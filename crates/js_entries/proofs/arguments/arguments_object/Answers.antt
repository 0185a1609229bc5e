use Rattle.std.proofs.Common.{refl}
use Rattle.heap_steps.proofs.Chains.{stops, forgets}
use Rattle.js_entries.proofs.Steps.{length_stops, elements_stop, object_made}
use Rattle.js_entries.proofs.arguments.arguments_object.Goals as goal

pub returns-in_err-object : goal.returns-in_err-object
returns-in_err-object c = stops _ _ _ _ _ _ c.from_residual.ensures.1 c.in_err-object.ensures

pub returns-in_err-count_of : goal.returns-in_err-count_of
returns-in_err-count_of c = forgets _ _ c.from_residual-in_err-count_of.ensures.1 refl

pub returns-in_err-define_as : goal.returns-in_err-define_as
returns-in_err-define_as c = length_stops c.args.place c.args.arguments.now _ _ _ c.in_ok-object.ensures _ _ _ c.from_residual-in_err-define_as.ensures.1 (rw c.in_ok-count_of.ensures at c.in_err-define_as.ensures)

pub returns-in_err-define_elements : goal.returns-in_err-define_elements
returns-in_err-define_elements c = elements_stop c.args.place c.args.arguments.now _ _ _ c.in_ok-object.ensures _ (rw c.in_ok-count_of.ensures at c.in_ok-define_as.ensures) _ _ _ c.from_residual-in_err-define_elements.ensures.1 c.in_err-define_elements.ensures

pub returns : goal.returns
returns c = object_made c.args.place c.args.arguments.now _ _ _ c.in_ok-object.ensures _ (rw c.in_ok-count_of.ensures at c.in_ok-define_as.ensures) _ c.in_ok-define_elements.ensures
