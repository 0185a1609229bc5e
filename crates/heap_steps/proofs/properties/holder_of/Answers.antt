use Rattle.std.proofs.Common.{Some, ap}
use Rattle.heap_steps.proofs.Bounds.{by_number}
use Rattle.heap_steps.proofs.properties.holder_of.Goals as goal

pub returns-in-Bool : goal.returns-in-Bool
returns-in-Bool c = rw c.in-Bool.is (ap Some (by_number _ _ c.built_in.ensures))

pub returns-in-Number : goal.returns-in-Number
returns-in-Number c = rw c.in-Number.is (ap Some (by_number _ _ c.built_in-in-Number.ensures))

pub returns-in-Text : goal.returns-in-Text
returns-in-Text c = rw c.in-Text.is (ap Some (by_number _ _ c.built_in-in-Text.ensures))
