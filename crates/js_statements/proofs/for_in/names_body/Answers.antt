use Rattle.js_statements.proofs.for_in.names_body.Goals as goal

pub returns : goal.returns
returns c = c.execute.ensures
