use Rattle.std.proofs.Common.{◌≡◌, suc, ◌+◌, ◌-◌, ◌∙◌, sym, arith}
use Rattle.dns_message.specs.Record.{facts_at}
use Rattle.dns_message.specs.Seen.{facts_known, name_there}
use Rattle.dns_message.proofs.Chains.{answer_more, answer_ends, answer_last}
use Rattle.dns_message.proofs.chain.follow.Goals as goal

pub returns-in-None : goal.returns-in-None
returns-in-None c =
    let less : 16 - c.loop-step._step ≡ suc (16 - (c.loop-step._step + 1)) = omega arith in
    c.first_address.ensures ∙ sym (c.loop-step.invariant.1 ∙ answer_ends _ _ (facts_known (facts_at c.args.section.kind c.args.section.count c.args.message.now c.args.section.at)) (name_there c.args.message.now c.loop-step.present) less (sym c.in-None.ensures.alias))

pub loop-step-preserved : goal.loop-step-preserved
loop-step-preserved c =
    let less : 16 - c.loop-step._step ≡ suc (16 - (c.loop-step._step + 1)) = omega arith in (
      c.in-Some.ensures.named,
      c.loop-step.invariant.1 ∙ answer_more _ _ (facts_known (facts_at c.args.section.kind c.args.section.count c.args.message.now c.args.section.at)) (name_there c.args.message.now c.loop-step.present) (name_there c.args.message.now c.in-Some.target) less (sym c.in-Some.ensures.alias),
    )

pub returns : goal.returns
returns c =
    c.first_address-2.ensures ∙ sym (c.loop-step.invariant.1 ∙ answer_last (16 - c.loop-step._step) (facts_known (facts_at c.args.section.kind c.args.section.count c.args.message.now c.args.section.at)) (name_there c.args.message.now c.loop-step.present) (omega arith))
