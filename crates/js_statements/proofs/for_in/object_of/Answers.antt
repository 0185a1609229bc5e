use Rattle.js_statements.proofs.for_in.object_of.Goals as goal

pub returns : goal.returns
returns c = c.evaluate.ensures
