use Rattle.js_statements.proofs.simple.thrown.Goals as goal

pub returns : goal.returns
returns c = c.evaluate.ensures
