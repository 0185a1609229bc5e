use Rattle.std.proofs.Common.{◌≡◌}
use Rattle.js_expression_parser.specs.Operators.{behind, cost, within}
use Rattle.js_expression_parser.proofs.parser.Parser.operators_behind.Given as goal

abbrev pub invariant-loop-rows : goal.invariant-loop-rows
invariant-loop-rows g l =
    behind l.self.end (g.N.Nested.readers l.self.nested) l.form l.fn.first
    ≡ within l.self.end (g.N.Nested.readers l.self.nested) l.form l.rows.items (behind l.self.end (g.N.Nested.readers l.self.nested) l.form l.reading)

abbrev pub decreases-loop-rows : goal.decreases-loop-rows
decreases-loop-rows g l = cost l.rows.items l.reading
