use Rattle.std.proofs.Common.{arith, refl}
use Rattle.heap_steps.proofs.Lists.{list_step, list_rest, list_end}
use Rattle.js_entries.proofs.bodies.constructing_body.Goals as goal

pub returns-in-empty : goal.returns-in-empty
returns-in-empty c = rw (list_end c.args.body.now c.in-empty.len_below) (record { goes = λ last. refl; light = omega arith })

pub returns-in-len1-up : goal.returns-in-len1-up
returns-in-len1-up c = rw (list_step _ _ c.one-item.is c.in-len1-up.len_at_least) (rw (list_rest c.args.body.now) at c.execute.ensures)
