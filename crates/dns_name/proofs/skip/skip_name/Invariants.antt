use Rattle.std.proofs.Common.{◌≡◌, ◌+◌, ◌-◌, ◌≤◌}
use Rattle.std.specs.Prelude.{IfSome, length}
use Rattle.dns_name.specs.Wire.{behind_of, name_at}
use Rattle.dns_name.specs.Walk.{rest_of}
use Rattle.dns_name.proofs.WalkLaws.{skipped}
use Rattle.dns_name.proofs.skip.skip_name.Given as goal

-- the rest decides, and the name so far is within the limit
abbrev pub invariant-parts : goal.invariant-parts
invariant-parts l =
    (behind_of (name_at l.message l.fn.at) ≡ skipped l.length l.behind (rest_of l.message l.piece l.at)) × (l.length ≤ 255) × IfSome l.behind (λ behind. behind ≤ length l.message)

-- a label takes of the limit, and a pointer leads to a piece nearer to the front
abbrev pub decreases-parts : goal.decreases-parts
decreases-parts l = (255 - l.length) + l.piece
