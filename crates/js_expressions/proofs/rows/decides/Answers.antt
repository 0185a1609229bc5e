use Rattle.std.proofs.Common.{sym, ap}
use Rattle.js_expressions.proofs.Binary.{undecided}
use Rattle.std.specs.Prelude.{not}
use Rattle.js_expressions.proofs.rows.decides.Goals as goal

pub returns-in-Or : goal.returns-in-Or
returns-in-Or c = rw c.in-Or.is c.to_boolean.ensures

pub returns-in-And : goal.returns-in-And
returns-in-And c = rw c.in-And.is (ap not c.to_boolean-in-And.ensures)

pub returns-in_default : goal.returns-in_default
returns-in_default c = sym (undecided _ _ c.in_default.not-Or c.in_default.not-And)
