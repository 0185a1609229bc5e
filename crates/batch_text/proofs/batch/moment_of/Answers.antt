use Rattle.std.proofs.Common.{sym, ◌∙◌}
use Rattle.batch_text.proofs.Moments.{past_moments}
use Rattle.batch_text.proofs.batch.moment_of.Goals as goal

pub returns-in_default-2 : goal.returns-in_default-2
returns-in_default-2 c = past_moments c.args.digits.now c.in_default.field-0 c.in_default.ensures.value.0 (sym c.is_number.ensures ∙ c.if-not-is_number.false)
