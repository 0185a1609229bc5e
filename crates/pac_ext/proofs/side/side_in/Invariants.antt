use Rattle.std.proofs.Common.{◌≡◌, length, Some}
use Rattle.pac_ext.specs.Reading.{joined, groups_in, side_in}
use Rattle.pac_ext.proofs.Sides.{pieces}
use Rattle.pac_ext.proofs.side.side_in.Given as goal

-- the groups so far stand before those of the pieces that are left
abbrev pub invariant-loop-cut : goal.invariant-loop-cut
invariant-loop-cut l = side_in l.fn.ending l.fn.units ≡ joined (Some l.groups.items) (groups_in l.fn.ending (pieces l.rest))

abbrev pub decreases-loop-cut : goal.decreases-loop-cut
decreases-loop-cut l = length l.rest
