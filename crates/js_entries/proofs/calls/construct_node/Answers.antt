use Rattle.js_evaluation.specs.Entries.{construct_node}
use Rattle.js_entries.proofs.calls.construct_node.Goals as goal

pub returns : goal.returns
unfolding construct_node
returns c = let k = rw c.kind-kind.ensures at c.constructed_by.ensures in record { goes = k.goes; light = k.light }
