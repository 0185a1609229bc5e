use Rattle.js_scope.proofs.root.+parts.Given as goal

abbrev pub decreases-resolve_expression : goal.decreases-resolve_expression
decreases-resolve_expression l = l.room

abbrev pub decreases-resolve_statement : goal.decreases-resolve_statement
decreases-resolve_statement l = l.room
