use Rattle.std.proofs.Common.{refl}
use Rattle.pac_ask.proofs.Steps.{again_turn, none_turn}
use Rattle.pac_ask.proofs.one_name.OneNamePoller.step.Goals as goal

pub returns-clause-ok : goal.returns-clause-ok
returns-clause-ok g c task turns s =
    again_turn c.args.self.now c.hear.new.self _ c.hear.ensures _ _ c.count.ensures.beat c.count.ensures.counted task turns s _ _
    c.if-not-count.false _ _ c.in_ok-again.ensures.kept c.in_ok-again.ensures.again

pub returns-then-not-count-clause-ok : goal.returns-then-not-count-clause-ok
returns-then-not-count-clause-ok g c task turns s =
    none_turn c.args.self.now c.hear.new.self _ c.hear.ensures _ _ c.count.ensures.beat c.count.ensures.counted task turns s _ _
    c.if-not-count.true _ _ refl c.new.ensures.items
