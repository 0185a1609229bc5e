use Rattle.js_expressions.proofs.back.target_back.Goals as goal

pub returns-in-First : goal.returns-in-First
returns-in-First c = rw c.in-First.is c.first_referred.ensures

pub returns-in-Update : goal.returns-in-Update
returns-in-Update c = rw c.in-Update.is c.update_done.ensures

pub returns-in-Delete : goal.returns-in-Delete
returns-in-Delete c = rw c.in-Delete.is c.target_deleted.ensures

pub returns-in-TypeOf : goal.returns-in-TypeOf
returns-in-TypeOf c = rw c.in-TypeOf.is c.target_type.ensures

pub returns : goal.returns
returns c = rw c.in-Assign.is c.target_done.ensures
