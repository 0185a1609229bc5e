use Rattle.std.proofs.Common.{arith}
use Rattle.js_reading.proofs.Rows.{from_first}
use Rattle.js_reading.proofs.turns.row.Goals as goal

pub returns : goal.returns
returns g c reader reads = from_first reader _ _ _ (rw c.new.ensures.items at c.parts_behind.ensures reader reads) (omega arith)
