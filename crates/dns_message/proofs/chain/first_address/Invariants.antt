use Rattle.std.proofs.Common.{◌≡◌, ◌-◌}
use Rattle.std.specs.Prelude.{IsSome}
use Rattle.dns_message.specs.Record.{facts_at}
use Rattle.dns_message.specs.Reply.{address_in}
use Rattle.dns_message.specs.Seen.{facts_known, name_there}
use Rattle.dns_message.proofs.chain.first_address.Given as goal

-- the records that are left are readable, and decide
abbrev pub invariant-loop-turn : goal.invariant-loop-turn
invariant-loop-turn l =
    IsSome (facts_at l.fn.section.kind (l.fn.section.count - l._turn) l.message l.at)
    × (address_in (facts_known (facts_at l.fn.section.kind l.fn.section.count l.message l.fn.section.at)) (name_there l.message l.present)
    ≡ address_in (facts_known (facts_at l.fn.section.kind (l.fn.section.count - l._turn) l.message l.at)) (name_there l.message l.present))
