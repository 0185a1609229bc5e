use Rattle.heap_steps.proofs.Lists.{list_step, list_rest}
use Rattle.js_primary.proofs.literals.properties_from.Goals as goal

pub returns-in-len1-up : goal.returns-in-len1-up
returns-in-len1-up c = rw (list_step _ _ c.property-item.is c.in-len1-up.len_at_least) (rw (list_rest c.args.properties.now) at c.evaluate.ensures)
