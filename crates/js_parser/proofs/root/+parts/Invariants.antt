use Rattle.js_parser.proofs.root.+parts.Given as goal

abbrev pub decreases-read_expression : goal.decreases-read_expression
decreases-read_expression l = l.room

abbrev pub decreases-read_statement : goal.decreases-read_statement
decreases-read_statement l = l.room
