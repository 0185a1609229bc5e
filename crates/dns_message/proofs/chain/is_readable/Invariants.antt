use Rattle.std.proofs.Common.{◌≡◌, ◌-◌}
use Rattle.std.specs.Prelude.{is_some}
use Rattle.dns_message.specs.Record.{facts_at}
use Rattle.dns_message.proofs.chain.is_readable.Given as goal

-- the records that are left decide
abbrev pub invariant-loop-turn : goal.invariant-loop-turn
invariant-loop-turn l =
    is_some (facts_at l.fn.section.kind l.fn.section.count l.message l.fn.section.at) ≡ is_some (facts_at l.fn.section.kind (l.fn.section.count - l._turn) l.message l.at)
