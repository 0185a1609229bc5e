use Rattle.std.proofs.Common.{arith, refl}
use Rattle.js_runs.proofs.back.back.Goals as goal

pub returns-in-Hold : goal.returns-in-Hold
returns-in-Hold c = record { goes = λ last. rw c.in-Hold.is refl; light = omega arith }

pub returns-in-Expression : goal.returns-in-Expression
returns-in-Expression c = record { goes = λ last. rw c.in-Expression.is (c.expression_back.ensures.goes last); light = c.expression_back.ensures.light }

pub returns-in-Suffix : goal.returns-in-Suffix
returns-in-Suffix c = record { goes = λ last. rw c.in-Suffix.is (c.suffix_back.ensures.goes last); light = c.suffix_back.ensures.light }

pub returns-in-Target : goal.returns-in-Target
returns-in-Target c = record { goes = λ last. rw c.in-Target.is refl; light = omega arith }

pub returns-in-Statement : goal.returns-in-Statement
returns-in-Statement c = rw c.in-Statement.is c.statement_back.ensures

pub returns-in-Loop : goal.returns-in-Loop
returns-in-Loop c = rw c.in-Loop.is c.loop_back.ensures

pub returns-in-Entry : goal.returns-in-Entry
returns-in-Entry c = rw c.in-Entry.is (c.entry_back.ensures c.args.value)

pub returns-in-Primitive : goal.returns-in-Primitive
returns-in-Primitive c = rw c.in-Primitive.is c.method_done.ensures
