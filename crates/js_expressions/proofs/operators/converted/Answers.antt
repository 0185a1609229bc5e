use Rattle.std.proofs.Common.{sym}
use Rattle.js_machine.specs.Moves.{inner}
use Rattle.js_evaluation.specs.Parts.{calls}
use Rattle.js_expressions.proofs.operators.converted.Goals as goal

pub returns-then-takes_primitives : goal.returns-then-takes_primitives
returns-then-takes_primitives c = rw (sym (c.takes_primitives.ensures (calls (inner c.args.machine.now))), c.if-takes_primitives.true) c.both_operands.ensures

pub returns : goal.returns
returns c = rw (sym (c.takes_primitives.ensures (calls (inner c.args.machine.now))), c.if-takes_primitives.false) c.operated.ensures
