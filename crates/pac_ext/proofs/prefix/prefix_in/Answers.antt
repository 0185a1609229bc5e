use Rattle.std.proofs.Common.{sym, ◌∙◌}
use Rattle.pac_ext.proofs.Prefixes.{no-slash}
use Rattle.pac_ext.proofs.prefix.prefix_in.Goals as goal

pub returns-in_err-cut-clause-value : goal.returns-in_err-cut-clause-value
returns-in_err-cut-clause-value c = c.from_residual.ensures ∙ sym (no-slash c.args.units.now c.in_err-cut.ensures.nothing)
