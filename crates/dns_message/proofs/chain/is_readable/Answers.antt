use Rattle.std.proofs.Common.{◌≡◌, suc, ◌+◌, ◌-◌, ◌∙◌, sym, ap, ℕ, arith}
use Rattle.std.specs.Prelude.{is_some}
use Rattle.dns_message.specs.Record.{facts_at}
use Rattle.dns_message.specs.Seen.{record_seen}
use Rattle.dns_message.proofs.Records.{readable_more, readable_none, readable_all}
use Rattle.dns_message.proofs.chain.is_readable.Goals as goal

pub loop-turn-init : goal.loop-turn-init
loop-turn-init c =
    let all : c.args.section.count ≡ c.args.section.count - 0 = omega arith in
    ap (λ (n : ℕ). is_some (facts_at c.args.section.kind n c.args.message.now c.args.section.at)) all

pub returns-in-None : goal.returns-in-None
returns-in-None c =
    let less : c.args.section.count - c.loop-turn._turn ≡ suc (c.args.section.count - (c.loop-turn._turn + 1)) = omega arith in
    sym (c.loop-turn.invariant ∙ readable_none c.args.section.kind _ _ c.args.message.now c.loop-turn.at less c.in-None.ensures)

pub loop-turn-preserved : goal.loop-turn-preserved
loop-turn-preserved c =
    let less : c.args.section.count - c.loop-turn._turn ≡ suc (c.args.section.count - (c.loop-turn._turn + 1)) = omega arith in
    c.loop-turn.invariant ∙ readable_more c.args.section.kind _ _ c.args.message.now c.loop-turn.at (record_seen c.args.message.now c.in-Some.«record») less c.in-Some.ensures

pub returns : goal.returns
returns c = sym (c.loop-turn.invariant ∙ readable_all c.args.section.kind (c.args.section.count - c.loop-turn._turn) c.args.message.now c.loop-turn.at (omega arith))
