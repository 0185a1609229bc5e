use Rattle.js_statements.proofs.loops.do_loop.Goals as goal

pub returns : goal.returns
returns c = record { goes = c.execute.ensures.goes; light = c.execute.ensures.light }
