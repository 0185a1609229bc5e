use Rattle.std.proofs.Common.{sym, ◌∙◌}
use Rattle.js_expressions.proofs.assignments.target_done.Goals as goal

pub returns-in-None : goal.returns-in-None
returns-in-None c = rw (sym c.operator_of.ensures ∙ c.in-None.is) c.target_set.ensures

pub returns-in-Some : goal.returns-in-Some
returns-in-Some c = rw (sym c.operator_of.ensures ∙ c.in-Some.is) c.target_read.ensures
