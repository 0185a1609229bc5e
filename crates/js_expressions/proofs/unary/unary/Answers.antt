use Rattle.js_expressions.proofs.unary.unary.Goals as goal

pub returns-in-Delete : goal.returns-in-Delete
returns-in-Delete c = rw c.in-Delete.is c.delete.ensures

pub returns-in-Void : goal.returns-in-Void
returns-in-Void c = rw c.in-Void.is c.visit.ensures

pub returns-in-TypeOf : goal.returns-in-TypeOf
returns-in-TypeOf c = rw c.in-TypeOf.is (c.type_of.ensures c.args.place)

pub returns-in-Plus : goal.returns-in-Plus
returns-in-Plus c = rw c.in-Plus.is c.visit-in-Plus.ensures

pub returns-in-Minus : goal.returns-in-Minus
returns-in-Minus c = rw c.in-Minus.is c.visit-in-Minus.ensures

pub returns-in-BitNot : goal.returns-in-BitNot
returns-in-BitNot c = rw c.in-BitNot.is c.visit-in-BitNot.ensures

pub returns-in-Not : goal.returns-in-Not
returns-in-Not c = rw c.in-Not.is c.visit-in-Not.ensures
