use Rattle.std.proofs.Common.{◌≡◌, ◌-◌, ◌≤◌}
use Rattle.dns_name.specs.Wire.{is_same_name}
use Rattle.dns_name.specs.Walk.{labels_from}
use Rattle.dns_name.proofs.SameLaws.{same_rest}
use Rattle.dns_name.proofs.compare.same_name.Given as goal

-- what is left of both decides, and what was equal is within the limit
abbrev pub invariant-labels : goal.invariant-labels
invariant-labels l =
    (is_same_name l.message l.a l.b ≡ same_rest l.length (labels_from l.message l.left) (labels_from l.message l.right)) × (l.length ≤ 255)

abbrev pub decreases-labels : goal.decreases-labels
decreases-labels l = 255 - l.length
