use Rattle.std.proofs.Common.{rules}
use Rattle.js_expression_parser.proofs.parser.Parser.row.Goals as goal

pub returns : goal.returns
returns g c =
    c.row.ensures (g.R.Row.turn c.args.parts.now c.args.self.now.end (g.N.Nested.readers c.args.self.now.nested)) (λ before given post. search rules)
