use Rattle.js_expressions.proofs.Binary.{operand_else}
use Rattle.js_machine.specs.Moves.{functions_of, inner}
use Rattle.js_frames.specs.Parts.{context_of}
use Rattle.js_expressions.proofs.rows.operand_of.Goals as goal

pub returns-in-Or : goal.returns-in-Or
returns-in-Or c = rw c.in-Or.is c.chain.ensures

pub returns-in-And : goal.returns-in-And
returns-in-And c = rw c.in-And.is c.chain-in-And.ensures

pub returns-in_default : goal.returns-in_default
returns-in_default c = rw (operand_else (functions_of c.args.machine.now) (inner c.args.machine.now) (context_of c.args.machine.now.context) _ _ _ c.in_default.not-Or c.in_default.not-And) c.evaluate.ensures
