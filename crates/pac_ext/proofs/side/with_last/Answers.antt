use Rattle.std.proofs.Common.{sym, ◌∙◌, ap, Some}
use Rattle.pac_ext.specs.Reading.{joined, last_in, at_most_eight}
use Rattle.pac_ext.proofs.Sides.{no-group}
use Rattle.pac_ext.proofs.side.with_last.Goals as goal

pub returns-in-GroupOrQuad : goal.returns-in-GroupOrQuad
returns-in-GroupOrQuad c =
    c.with_quad.ensures ∙ sym (ap (λ ending. at_most_eight (joined (Some c.args.groups.items) (last_in ending c.args.piece.now))) c.in-GroupOrQuad.is
    ∙ ap (λ o. at_most_eight (joined (Some c.args.groups.items) o)) (no-group c.args.piece.now c.in-None.ensures))
