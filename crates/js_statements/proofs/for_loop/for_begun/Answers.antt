use Rattle.js_statements.proofs.for_loop.for_begun.Goals as goal

pub returns : goal.returns
returns c = record { goes = c.for_test.ensures.goes; light = c.for_test.ensures.light }
