use Rattle.std.proofs.Common.{◌≤◌, length, sym, subst}
use Rattle.pac_lint.proofs.Lengths.{decoded_fits}
use Rattle.pac_lint.proofs.command.decoded.Goals as goal

pub returns-clause-fits : goal.returns-clause-fits
returns-clause-fits c = subst (λ t. length t ≤ length c.args.bytes.now) (sym c.in_ok-text.ensures) (decoded_fits c.args.bytes.now)
