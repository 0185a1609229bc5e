use Rattle.js_statements.proofs.attempts.tried.Goals as goal

pub returns : goal.returns
returns c = c.execute.ensures
