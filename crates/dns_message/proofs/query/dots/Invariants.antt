use Rattle.std.proofs.Common.{◌≡◌, ◌++◌, drop, length}
use Rattle.dns_message.specs.Dotted.{dotted}
use Rattle.dns_message.proofs.query.dots.Given as goal

-- what is written so far, and what the octets that are left give
abbrev pub invariant-loop-octet : goal.invariant-loop-octet
invariant-loop-octet l =
    (l.bytes.items ++ dotted l.left (drop l.octet-index l.rest) ≡ dotted l.first l.rest) × (length l.bytes.items ≡ l.octet-index)
