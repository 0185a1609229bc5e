use Rattle.js_statements.proofs.simple.evaluate_alone.Goals as goal

pub returns : goal.returns
returns c = c.evaluate.ensures
