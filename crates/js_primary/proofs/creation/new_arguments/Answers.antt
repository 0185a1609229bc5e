use Rattle.heap_steps.proofs.Lists.{list_step, list_rest, list_end}
use Rattle.js_primary.proofs.creation.new_arguments.Goals as goal

pub returns-in-empty : goal.returns-in-empty
returns-in-empty c = rw (list_end c.args.left.now c.in-empty.len_below) c.constructed.ensures

pub returns : goal.returns
returns c = rw (list_step _ _ c.e-item.is c.in-len1-up.len_at_least) (rw (list_rest c.args.left.now) at c.evaluate.ensures)
