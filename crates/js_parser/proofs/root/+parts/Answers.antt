use Rattle.std.proofs.Common.{◌<◌, arith}
use Rattle.js_parser.proofs.Deep as deep
use Rattle.js_parser.proofs.root.+parts.Goals as goal

pub read_expression-returns-then-room-eq0 : goal.read_expression-returns-then-room-eq0
read_expression-returns-then-room-eq0 t c =
    rw c.refused.ensures (deep.expression_too_deep c.args.end c.args.room c.args.tokens.now c.args.part c.if-room-eq0.true)

pub read_expression-returns-in-Value : goal.read_expression-returns-in-Value
read_expression-returns-in-Value t c =
    let some : 0 < c.args.room = omega arith in
    rw (c.in-Value.is, deep.value c.args.end c.args.room c.args.tokens.now some c.in-Value.form) c.assignment.ensures

pub read_expression-returns-in-Operand : goal.read_expression-returns-in-Operand
read_expression-returns-in-Operand t c =
    let some : 0 < c.args.room = omega arith in
    rw (c.in-Operand.is, deep.operand c.args.end c.args.room c.args.tokens.now some) c.unary.ensures

pub read_expression-returns-in-Callee : goal.read_expression-returns-in-Callee
read_expression-returns-in-Callee t c =
    let some : 0 < c.args.room = omega arith in
    rw (c.in-Callee.is, deep.callee c.args.end c.args.room c.args.tokens.now some) c.suffixed.ensures

pub read_statement-returns-then-room-eq0 : goal.read_statement-returns-then-room-eq0
read_statement-returns-then-room-eq0 t c =
    rw c.refused.ensures (deep.statement_too_deep c.args.end c.args.room c.args.tokens.now c.args.part c.if-room-eq0.true)

pub read_statement-returns-in-Statement : goal.read_statement-returns-in-Statement
read_statement-returns-in-Statement t c =
    let some : 0 < c.args.room = omega arith in
    rw (c.in-Statement.is, deep.statement c.args.end c.args.room c.args.tokens.now some c.in-Statement.around) c.statement.ensures

pub read_statement-returns-in-Block : goal.read_statement-returns-in-Block
read_statement-returns-in-Block t c =
    let some : 0 < c.args.room = omega arith in
    rw (c.in-Block.is, deep.block c.args.end c.args.room c.args.tokens.now some c.in-Block.around) c.block.ensures
