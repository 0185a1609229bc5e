use Rattle.std.proofs.Common.{◌≡◌, ◌+◌, ◌<◌, ◌≤◌, length}
use Rattle.js_grammar.specs.Units.{place_after}
use Rattle.js_lexer.proofs.units.place_after.Given as goal

abbrev pub invariant-loop-line : goal.invariant-loop-line
invariant-loop-line l = record {
  line : l.line + length l.rest ≤ l.fn.place.line + length l.units;
  column : l.column + length l.rest ≤ l.fn.place.column + length l.units;
  first : 0 < l.column;
  same : place_after (record { line = l.line; column = l.column }) l.rest ≡ place_after l.fn.place l.units;
}

abbrev pub decreases-loop-line : goal.decreases-loop-line
decreases-loop-line l = length l.rest
