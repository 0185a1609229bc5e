use Rattle.js_expressions.proofs.unary.value_or_undefined.Goals as goal

pub returns-in-Name : goal.returns-in-Name
returns-in-Name c = λ this. rw c.in-Name.is (c.read_or_undefined.ensures this)

pub returns-in-Property : goal.returns-in-Property
returns-in-Property c = λ this. rw c.in-Property.is c.get_by.ensures
