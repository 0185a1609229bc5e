use Rattle.std.proofs.Common.{◌≡◌}
use Rattle.dns_name.specs.Walk.{labels_from, only_labels, rest_of}
use Rattle.dns_name.proofs.place.next_label.Given as goal

-- the pointers so far lead to the same labels
abbrev pub invariant-pointers : goal.invariant-pointers
invariant-pointers l = labels_from l.message l.fn.place ≡ only_labels (rest_of l.message l.piece l.at)

abbrev pub decreases-pointers : goal.decreases-pointers
decreases-pointers l = l.piece
