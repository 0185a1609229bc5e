use Rattle.heap_steps.proofs.Lists.{list_step, list_rest, list_end}
use Rattle.js_statements.proofs.simple.branches_from.Goals as goal

pub returns-in-len1-up : goal.returns-in-len1-up
returns-in-len1-up c = rw (list_step _ _ c.branch-item.is c.in-len1-up.len_at_least) (rw (list_rest c.args.all.now) at c.evaluate.ensures)

pub returns-in-empty : goal.returns-in-empty
returns-in-empty c = rw (list_end c.args.all.now c.in-empty.len_below) c.otherwise.ensures
