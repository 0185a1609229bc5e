use Rattle.js_statements.proofs.loops.while_loop.Goals as goal

pub returns : goal.returns
returns c = record { goes = c.evaluate.ensures.goes; light = c.evaluate.ensures.light }
