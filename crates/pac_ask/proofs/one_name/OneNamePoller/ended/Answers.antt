use Rattle.std.proofs.Common.{sym, ◌∙◌}
use Rattle.pac_ask.proofs.Steps.{ended_dead}
use Rattle.pac_ask.proofs.one_name.OneNamePoller.ended.Goals as goal

pub returns-else-is_some : goal.returns-else-is_some
returns-else-is_some c task turns s = c.is_dead.ensures ∙ ended_dead _ _ _ _ _ task turns s (sym c.is_some.ensures ∙ c.if-is_some.false)
