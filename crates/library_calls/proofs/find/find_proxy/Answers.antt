use Rattle.library_calls.proofs.Found.{some_agrees}
use Rattle.library_calls.proofs.find.find_proxy.Goals as goal

pub returns-in-Ok-clause-agrees : goal.returns-in-Ok-clause-agrees
returns-in-Ok-clause-agrees c = some_agrees c.args.names.now

pub returns-in-Err-clause-told : goal.returns-in-Err-clause-told
returns-in-Err-clause-told c = λ all agrees. c.told.ensures _ (c.in-Err.ensures all agrees)

pub returns-in-Err-clause-agrees : goal.returns-in-Err-clause-agrees
returns-in-Err-clause-agrees c = some_agrees c.args.names.now
