use Rattle.std.proofs.Common.{arith, refl}
use Rattle.heap_steps.proofs.Lists.{list_step, list_rest, list_end}
use Rattle.js_statements.proofs.simple.statements_from.Goals as goal

pub returns-in-len1-up : goal.returns-in-len1-up
returns-in-len1-up c = rw (list_step _ _ c.one-item.is c.in-len1-up.len_at_least) (rw (list_rest c.args.all.now) at c.execute.ensures)

pub returns-in-empty : goal.returns-in-empty
returns-in-empty c = record { goes = λ last. rw (list_end c.args.all.now c.in-empty.len_below) refl; light = omega arith }
