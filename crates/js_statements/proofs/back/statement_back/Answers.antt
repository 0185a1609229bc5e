use Rattle.std.proofs.Common.{arith, refl}
use Rattle.js_statements.proofs.Ends.{block_gives}
use Rattle.js_statements.proofs.back.statement_back.Goals as goal

pub returns-in-Statements : goal.returns-in-Statements
returns-in-Statements c = rw c.in-Statements.is c.statements_from.ensures

pub returns-in-Evaluate : goal.returns-in-Evaluate
returns-in-Evaluate c = record { goes = λ last. rw c.in-Evaluate.is refl; light = omega arith }

pub returns-in-Var : goal.returns-in-Var
returns-in-Var c = rw c.in-Var.is c.initialized.ensures

pub returns-in-Branch : goal.returns-in-Branch
returns-in-Branch c = rw c.in-Branch.is c.branched.ensures

pub returns-in-Return : goal.returns-in-Return
returns-in-Return c = record { goes = λ last. rw c.in-Return.is refl; light = omega arith }

pub returns-in-Throw : goal.returns-in-Throw
returns-in-Throw c = record { goes = λ last. rw c.in-Throw.is refl; light = omega arith }

pub returns-in-SwitchValue : goal.returns-in-SwitchValue
returns-in-SwitchValue c = rw c.in-SwitchValue.is c.from_match.ensures

pub returns-in-SwitchTest : goal.returns-in-SwitchTest
returns-in-SwitchTest c = rw c.in-SwitchTest.is c.compared.ensures

pub returns-in-SwitchBody : goal.returns-in-SwitchBody
returns-in-SwitchBody c = rw c.in-SwitchBody.is c.body_from.ensures

pub returns-in-TryBlock : goal.returns-in-TryBlock
returns-in-TryBlock c = rw c.in-TryBlock.is (block_gives c.args.machine.now _ _ _ _ c.ended.ensures)

pub returns-in-Handler : goal.returns-in-Handler
returns-in-Handler c = rw c.in-Handler.is c.ended-in-Handler.ensures

pub returns : goal.returns
returns c = record { goes = λ last. rw c.in-Last.is refl; light = omega arith }
