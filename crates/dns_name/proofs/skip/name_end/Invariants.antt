use Rattle.std.proofs.Common.{◌≡◌, ◌-◌, ◌≤◌, length, max}
use Rattle.dns_name.specs.Wire.{behind_of}
use Rattle.dns_name.specs.Walk.{rest_of}
use Rattle.dns_name.proofs.skip.name_end.Given as goal

-- the rest of the first piece ends where the name does
abbrev pub invariant-parts : goal.invariant-parts
invariant-parts l =
    (behind_of (rest_of l.message l.fn.at l.at) ≡ behind_of (rest_of l.message l.fn.at l.fn.at)) × (l.at ≤ max l.fn.at (length l.message))

abbrev pub decreases-parts : goal.decreases-parts
decreases-parts l = length l.message - l.at
