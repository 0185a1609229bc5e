use Rattle.std.proofs.Common.{◌-◌}
use Rattle.js_grammar.specs.declared.turn.Turn.{Turn}
use Rattle.js_grammar.specs.Readers.{Reader, row_of}
use Rattle.js_reading.specs.Reads.{Reads, with_front}
use Rattle.js_reading.proofs.Rows.{SoFar}
use Rattle.js_reading.proofs.turns.parts_behind.Given as goal

abbrev pub invariant-loop-turn : goal.invariant-loop-turn
invariant-loop-turn g l = (reader : Reader (Turn _)) → ((before : _) (given : _) → goal.F-post g l.turn before given → Reads (reader before.now) given)
    → SoFar reader l.all.items l.rest (l.turns - l._turn) (with_front l.fn.before.items (row_of reader l.turns l.tokens))
