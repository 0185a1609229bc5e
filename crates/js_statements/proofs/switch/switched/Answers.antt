use Rattle.js_statements.proofs.switch.switched.Goals as goal

pub returns : goal.returns
returns c = c.evaluate.ensures
