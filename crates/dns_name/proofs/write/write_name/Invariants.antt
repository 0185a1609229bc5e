use Rattle.std.proofs.Common.{◌+◌, length, List, ℕ, Bor}
use Rattle.std.specs.Option.{option_copied, option_map_or}
use Rattle.pac_names.specs.Labels.{labels_behind, labels_of}
use Rattle.dns_name.proofs.WriteLaws.{IsWrittenSoFar}
use Rattle.dns_name.proofs.write.write_name.Given as goal

abbrev pub invariant-labels : goal.invariant-labels
invariant-labels l = IsWrittenSoFar l.fn.buffer l.buffer l.fn.at l.at (labels_of l.name.text) (labels_behind (option_copied l.rest))

abbrev pub decreases-labels : goal.decreases-labels
decreases-labels l = option_map_or {T = Bor (List ℕ)} (λ rest. length rest.now + 1) l.rest 0
