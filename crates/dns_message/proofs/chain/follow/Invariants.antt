use Rattle.std.proofs.Common.{◌≡◌, ◌-◌}
use Rattle.std.specs.Prelude.{IsSome}
use Rattle.dns_name.specs.Wire.{labels_at}
use Rattle.dns_message.specs.Record.{facts_at}
use Rattle.dns_message.specs.Reply.{answer_on}
use Rattle.dns_message.specs.Seen.{facts_known, name_there}
use Rattle.dns_message.proofs.chain.follow.Given as goal

-- the steps that are left, from the present name, decide
abbrev pub invariant-loop-step : goal.invariant-loop-step
invariant-loop-step l =
    IsSome (labels_at l.message l.present)
    × (answer_on 16 (facts_known (facts_at l.fn.section.kind l.fn.section.count l.message l.fn.section.at)) (name_there l.message l.asked)
    ≡ answer_on (16 - l._step) (facts_known (facts_at l.fn.section.kind l.fn.section.count l.message l.fn.section.at)) (name_there l.message l.present))
