use Rattle.js_expressions.proofs.back.expression_back.Goals as goal

pub returns-in-Item : goal.returns-in-Item
returns-in-Item c = rw c.in-Item.is c.item_done.ensures

pub returns-in-Property : goal.returns-in-Property
returns-in-Property c = rw c.in-Property.is c.property_done.ensures

pub returns-in-Callee : goal.returns-in-Callee
returns-in-Callee c = rw c.in-Callee.is c.called_new.ensures

pub returns-in-NewArgument : goal.returns-in-NewArgument
returns-in-NewArgument c = rw c.in-NewArgument.is c.new_argument_done.ensures

pub returns-in-TypeOf : goal.returns-in-TypeOf
returns-in-TypeOf c = rw c.in-TypeOf.is c.type_done.ensures

pub returns-in-Plus : goal.returns-in-Plus
returns-in-Plus c = rw c.in-Plus.is c.primitive.ensures

pub returns-in-Minus : goal.returns-in-Minus
returns-in-Minus c = rw c.in-Minus.is c.primitive-in-Minus.ensures

pub returns-in-BitNot : goal.returns-in-BitNot
returns-in-BitNot c = rw c.in-BitNot.is c.primitive-in-BitNot.ensures

pub returns-in-Row : goal.returns-in-Row
returns-in-Row c = rw c.in-Row.is c.operands_from.ensures

pub returns-in-Operand : goal.returns-in-Operand
returns-in-Operand c = rw c.in-Operand.is c.operand_done.ensures

pub returns-in-Conditional : goal.returns-in-Conditional
returns-in-Conditional c = rw c.in-Conditional.is c.chosen.ensures

pub returns-in-AssignValue : goal.returns-in-AssignValue
returns-in-AssignValue c = rw c.in-AssignValue.is c.value_done.ensures

pub returns-in-AssignOperand : goal.returns-in-AssignOperand
returns-in-AssignOperand c = rw c.in-AssignOperand.is c.assigned_operand.ensures
