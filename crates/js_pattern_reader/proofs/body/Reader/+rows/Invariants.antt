use Rattle.std.proofs.Common.{◌≡◌, ◌+◌, ◌*◌}
use Rattle.js_pattern_reader.specs.Reading.{all_rows, inside_of, rows_from}
use Rattle.js_pattern_reader.specs.Spots.{spot_of}
use Rattle.js_pattern_reader.proofs.Rows.{finished}
use Rattle.js_pattern_reader.proofs.body.Reader.+rows.Given as goal

abbrev pub decreases-rows : goal.decreases-rows
decreases-rows l = 3 * l.room + 2

abbrev pub decreases-turn : goal.decreases-turn
decreases-turn l = 3 * l.room + 1

abbrev pub decreases-group : goal.decreases-group
decreases-group l = 3 * l.room

abbrev pub invariant-rows-loop-turns : goal.invariant-rows-loop-turns
invariant-rows-loop-turns l =
    all_rows l.self.count (inside_of l.self.count l.room) (spot_of l.at)
    ≡ finished l.rows l.terms (rows_from l.self.count (inside_of l.self.count l.room) l.turns (spot_of l.here))

abbrev pub decreases-rows-loop-turns : goal.decreases-rows-loop-turns
decreases-rows-loop-turns l = l.turns
