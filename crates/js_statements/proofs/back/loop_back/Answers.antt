use Rattle.std.proofs.Common.{arith, refl}
use Rattle.js_statements.proofs.back.loop_back.Goals as goal

pub returns-in-WhileCondition : goal.returns-in-WhileCondition
returns-in-WhileCondition c = rw c.in-WhileCondition.is c.while_tested.ensures

pub returns-in-WhileBody : goal.returns-in-WhileBody
returns-in-WhileBody c = rw c.in-WhileBody.is c.while_turn.ensures

pub returns-in-DoBody : goal.returns-in-DoBody
returns-in-DoBody c = rw c.in-DoBody.is c.do_test.ensures

pub returns-in-DoCondition : goal.returns-in-DoCondition
returns-in-DoCondition c = rw c.in-DoCondition.is c.do_tested.ensures

pub returns-in-ForStart : goal.returns-in-ForStart
returns-in-ForStart c = rw c.in-ForStart.is c.for_begun.ensures

pub returns-in-ForCondition : goal.returns-in-ForCondition
returns-in-ForCondition c = rw c.in-ForCondition.is c.for_tested.ensures

pub returns-in-ForBody : goal.returns-in-ForBody
returns-in-ForBody c = rw c.in-ForBody.is c.for_step.ensures

pub returns-in-ForStep : goal.returns-in-ForStep
returns-in-ForStep c = rw c.in-ForStep.is c.for_turn.ensures

pub returns-in-ForInFirst : goal.returns-in-ForInFirst
returns-in-ForInFirst c = rw c.in-ForInFirst.is c.first_named.ensures

pub returns-in-ForInObject : goal.returns-in-ForInObject
returns-in-ForInObject c = rw c.in-ForInObject.is c.listed.ensures

pub returns-in-ForInTarget : goal.returns-in-ForInTarget
returns-in-ForInTarget c = record { goes = λ last. rw c.in-ForInTarget.is refl; light = omega arith }

pub returns : goal.returns
returns c = rw c.in-ForInBody.is c.next_name.ensures
