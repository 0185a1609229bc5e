use Rattle.std.proofs.Common.{◌≡◌, ◌-◌, ◌≤◌, length, drop}
use Rattle.std.specs.Prelude.{codes}
use Rattle.utf16_text.specs.Search.{first_place}
use Rattle.pac_ext.proofs.read.gap_in.Given as goal

-- the first `::` stands at this place or behind it
abbrev pub invariant-loop-place : goal.invariant-loop-place
invariant-loop-place l = (first_place (codes "::") l.units 0 ≡ first_place (codes "::") (drop l.place l.units) l.place) × (l.place ≤ length l.units)

abbrev pub decreases-loop-place : goal.decreases-loop-place
decreases-loop-place l = length l.units - l.place
