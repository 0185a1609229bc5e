use Rattle.std.proofs.Common.{refl}
use Rattle.js_expressions.proofs.References.{gives_reference}
use Rattle.js_expressions.proofs.primitives.primitive_done.Goals as goal

pub returns-in-Plus : goal.returns-in-Plus
returns-in-Plus c = rw c.in-Plus.is (c.plus.ensures c.args.machine.now)

pub returns-in-Minus : goal.returns-in-Minus
returns-in-Minus c = rw c.in-Minus.is (c.minus.ensures c.args.machine.now)

pub returns-in-BitNot : goal.returns-in-BitNot
returns-in-BitNot c = rw c.in-BitNot.is (c.bit_not.ensures c.args.machine.now)

pub returns-in-Update : goal.returns-in-Update
returns-in-Update c = rw c.in-Update.is c.update_by.ensures

pub returns-in-Index : goal.returns-in-Index
returns-in-Index c = rw c.in-Index.is c.index_by.ensures

pub returns-in-Key : goal.returns-in-Key
returns-in-Key c = rw c.in-Key.is (gives_reference _ _ _ refl)

pub returns-in-In : goal.returns-in-In
returns-in-In c = rw c.in-In.is c.with_in.ensures

pub returns-in-Left : goal.returns-in-Left
returns-in-Left c = rw c.in-Left.is c.right_operand.ensures

pub returns-in-Right : goal.returns-in-Right
returns-in-Right c = rw c.in-Right.is c.operated.ensures

pub returns-in-ErrorName : goal.returns-in-ErrorName
returns-in-ErrorName c = rw c.in-ErrorName.is c.error_named.ensures

pub returns-in-ErrorMessage : goal.returns-in-ErrorMessage
returns-in-ErrorMessage c = rw c.in-ErrorMessage.is c.error_message.ensures

pub returns-in-Handed : goal.returns-in-Handed
returns-in-Handed c = rw c.in-Handed.is c.value_converted.ensures

pub returns-in-Begin : goal.returns-in-Begin
returns-in-Begin c = rw c.in-Begin.is c.begin_converted.ensures

pub returns : goal.returns
returns c = rw c.in-Element.is c.element_converted.ensures
