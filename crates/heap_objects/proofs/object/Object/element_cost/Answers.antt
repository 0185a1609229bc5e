use Rattle.std.proofs.Common.{arith}
use Rattle.heap_objects.proofs.ObjectLemmas.{is_length-index}
use Rattle.heap_objects.proofs.object.Object.element_cost.Goals as goal

pub returns-then-is_some-clause-no_length : goal.returns-then-is_some-clause-no_length
returns-then-is_some-clause-no_length c = is_length-index c.args.self.now.kind c.args.index (omega arith)

pub returns-then-is_past_last-clause-no_length : goal.returns-then-is_past_last-clause-no_length
returns-then-is_past_last-clause-no_length c = is_length-index c.args.self.now.kind c.args.index (omega arith)

pub returns-clause-no_length : goal.returns-clause-no_length
returns-clause-no_length c = is_length-index c.args.self.now.kind c.args.index (omega arith)
