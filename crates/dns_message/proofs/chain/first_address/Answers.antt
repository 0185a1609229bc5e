use Rattle.std.proofs.Common.{◌≡◌, suc, ◌+◌, ◌-◌, ◌∙◌, sym, arith}
use Rattle.dns_message.specs.Seen.{name_there, record_seen}
use Rattle.dns_message.proofs.Chains.{address_more, address_none}
use Rattle.dns_message.proofs.Records.{first_readable, rest_readable}
use Rattle.dns_message.proofs.chain.first_address.Goals as goal

pub known_record-record-requires : goal.known_record-record-requires
known_record-record-requires c =
    let less : c.args.section.count - c.loop-turn._turn ≡ suc (c.args.section.count - (c.loop-turn._turn + 1)) = omega arith in
    first_readable c.args.section.kind _ _ c.args.message.now c.loop-turn.at less c.loop-turn.invariant.0

pub returns-in-Some : goal.returns-in-Some
returns-in-Some c =
    let less : c.args.section.count - c.loop-turn._turn ≡ suc (c.args.section.count - (c.loop-turn._turn + 1)) = omega arith in
    sym (c.loop-turn.invariant.1 ∙ address_more c.args.section.kind _ _ c.args.message.now c.loop-turn.at (record_seen c.args.message.now c.known_record-record.result) (name_there c.args.message.now c.args.present) less c.known_record-record.ensures.«record» c.loop-turn.invariant.0
    ∙ c.in-Some.ensures _)

pub loop-turn-preserved : goal.loop-turn-preserved
loop-turn-preserved c =
    let less : c.args.section.count - c.loop-turn._turn ≡ suc (c.args.section.count - (c.loop-turn._turn + 1)) = omega arith in (
      rest_readable c.args.section.kind _ _ c.args.message.now c.loop-turn.at (record_seen c.args.message.now c.known_record-record.result) less c.known_record-record.ensures.«record» c.loop-turn.invariant.0,
      c.loop-turn.invariant.1 ∙ address_more c.args.section.kind _ _ c.args.message.now c.loop-turn.at (record_seen c.args.message.now c.known_record-record.result) (name_there c.args.message.now c.args.present) less c.known_record-record.ensures.«record» c.loop-turn.invariant.0
          ∙ c.in_default.ensures _,
    )

pub returns : goal.returns
returns c = sym (c.loop-turn.invariant.1 ∙ address_none c.args.section.kind (c.args.section.count - c.loop-turn._turn) c.args.message.now c.loop-turn.at (name_there c.args.message.now c.args.present) (omega arith))
