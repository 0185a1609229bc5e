use Rattle.std.proofs.Common.{ap, length, sym, ◌∙◌}
use Rattle.poll_log.proofs.Names.{true_false}
use Rattle.session_core.proofs.Waits.{first_filled}
use Rattle.session_core.proofs.waiting.Waiting.is_empty.Goals as goal

pub returns-clause-some : goal.returns-clause-some
returns-clause-some c e filled =
    first_filled c.args.self.now.places (λ k. true_false (sym (c.is_empty.ensures.1 (ap length k)) ∙ e)) filled
