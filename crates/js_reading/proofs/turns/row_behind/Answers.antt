use Rattle.std.proofs.Common.{arith}
use Rattle.js_reading.proofs.Rows.{from_second}
use Rattle.js_reading.proofs.turns.row_behind.Goals as goal

pub returns : goal.returns
returns g c reader reads first = from_second reader _ _ _ _ _ first (rw (c.in_ok-add_part.ensures, c.new-all.ensures.items) at c.parts_behind.ensures reader reads) (omega arith)
