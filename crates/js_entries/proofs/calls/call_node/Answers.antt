use Rattle.js_evaluation.specs.Entries.{call_node}
use Rattle.js_entries.proofs.calls.call_node.Goals as goal

pub returns : goal.returns
unfolding call_node
returns c = let k = rw c.kind-kind.ensures at c.called_by.ensures in record { goes = k.goes; light = k.light }
