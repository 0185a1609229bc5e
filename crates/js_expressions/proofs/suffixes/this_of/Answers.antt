use Rattle.js_expressions.proofs.suffixes.this_of.Goals as goal

pub returns-in-Name : goal.returns-in-Name
returns-in-Name c = rw c.in-Name.is c.global_value.ensures
