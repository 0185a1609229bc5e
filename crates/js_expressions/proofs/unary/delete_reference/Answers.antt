use Rattle.std.proofs.Common.{refl}
use Rattle.heap_steps.proofs.Chains.{forgets}
use Rattle.js_expressions.proofs.unary.delete_reference.Goals as goal

pub returns-in-Name : goal.returns-in-Name
returns-in-Name c = λ cx. rw c.in-Name.is c.delete_name.ensures

pub returns-in_err-name-in-Property : goal.returns-in_err-name-in-Property
returns-in_err-name-in-Property c = λ cx. forgets _ _ c.from_residual.ensures.1 refl

pub returns-in_ok-name-in-Property : goal.returns-in_ok-name-in-Property
returns-in_ok-name-in-Property c = λ cx. rw c.in-Property.is (rw c.in_ok-name-in-Property.ensures at c.delete_property.ensures)
