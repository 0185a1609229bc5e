use Rattle.heap_steps.proofs.Lists.{list_step, list_rest, list_end}
use Rattle.js_primary.proofs.literals.items_from.Goals as goal

pub loop-left-init : goal.loop-left-init
loop-left-init c = λ r m k. k

pub loop-left-preserved : goal.loop-left-preserved
loop-left-preserved c = λ r m k. c.loop-left.invariant r m (rw (list_step _ _ c.item-item.is c.in-len1-up.len_at_least, c.in-None.is) (rw (c.in_ok-count-in-None.ensures, list_rest c.loop-left.left.now) at k))

pub returns-in-Some : goal.returns-in-Some
returns-in-Some c = c.loop-left.invariant _ _ (rw (list_step _ _ c.item-item.is c.in-len1-up.len_at_least, c.in-Some.is) (rw (list_rest c.loop-left.left.now) at c.evaluate.ensures))

pub returns : goal.returns
returns c = c.loop-left.invariant _ _ (rw (list_end c.loop-left.left.now c.in_default.len_below) c.end_of_array.ensures)
