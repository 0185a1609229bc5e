use Rattle.std.proofs.Common.{sym, ◌∙◌, arith}
use Rattle.pac_ext.proofs.Gaps.{gap-nowhere}
use Rattle.pac_ext.proofs.read.gap_in.Goals as goal

pub returns-clause-place : goal.returns-clause-place
returns-clause-place c = sym (c.loop-place.invariant.0 ∙ gap-nowhere c.args.units.now c.loop-place.place (omega arith))
