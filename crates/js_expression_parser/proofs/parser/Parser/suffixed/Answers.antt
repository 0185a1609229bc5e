use Rattle.js_expression_parser.proofs.Suffixes.{stands_alone}
use Rattle.js_expression_parser.proofs.parser.Parser.suffixed.Goals as goal

pub returns-then-not-begins_suffix : goal.returns-then-not-begins_suffix
returns-then-not-begins_suffix g c =
    stands_alone c.args.self.now.end (g.N.Nested.readers c.args.self.now.nested) c.args.left c.args.tokens.now _ _ c.in_ok-first.ensures (c.begins_suffix.ensures c.if-not-begins_suffix.true _ _)
