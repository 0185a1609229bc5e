use Rattle.std.proofs.Common.{◌≡◌, ◌++◌, [], drop}
use Rattle.heap_elements.specs.Properties.{indexed_into, other_names}
use Rattle.heap_elements.proofs.listing.list_row.Given as goal

abbrev pub invariant-loop-entry : goal.invariant-loop-entry
invariant-loop-entry l = (indexed_into l.indexed.entries (drop l.entry-index l.row) ≡ indexed_into [] l.row) × (l.others ++ other_names (drop l.entry-index l.row) ≡ other_names l.row)
