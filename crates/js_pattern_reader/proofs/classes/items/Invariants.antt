use Rattle.std.proofs.Common.{◌≡◌, length}
use Rattle.js_pattern_reader.specs.Classes.{items_from}
use Rattle.js_pattern_reader.proofs.Items.{put_before}
use Rattle.js_pattern_reader.proofs.classes.items.Given as goal

abbrev pub invariant-loop-turns : goal.invariant-loop-turns
invariant-loop-turns l = items_from (length l.fn.units) l.fn.units ≡ put_before l.items (items_from l.turns l.rest)

abbrev pub decreases-loop-turns : goal.decreases-loop-turns
decreases-loop-turns l = l.turns
