use Rattle.js_statements.proofs.loops.do_test.Goals as goal

pub returns : goal.returns
returns c = c.evaluate.ensures
