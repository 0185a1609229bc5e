use Rattle.js_statements.proofs.Ends.{switch_stops}
use Rattle.js_statements.proofs.stopped.statement_stopped.Goals as goal

pub returns-in-SwitchTest : goal.returns-in-SwitchTest
returns-in-SwitchTest c = rw c.in-SwitchTest.is (switch_stops c.args.machine.now c.args.stop _ c.switch_end.ensures)

pub returns-in-SwitchBody : goal.returns-in-SwitchBody
returns-in-SwitchBody c = rw c.in-SwitchBody.is (switch_stops c.args.machine.now c.args.stop _ c.switch_end-in-SwitchBody.ensures)

pub returns-in-TryBlock : goal.returns-in-TryBlock
returns-in-TryBlock c = rw c.in-TryBlock.is c.block_stopped.ensures

pub returns-in-Handler : goal.returns-in-Handler
returns-in-Handler c = rw c.in-Handler.is c.ended.ensures
