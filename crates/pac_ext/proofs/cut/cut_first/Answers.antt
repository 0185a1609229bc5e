use Rattle.std.proofs.Common.{sym, ◌∙◌, ◌==◌}
use Rattle.pac_ext.proofs.Cuts.{before_at, behind_at, pieces_at, behind_none, pieces_none}
use Rattle.pac_ext.proofs.cut.cut_first.Goals as goal

pub returns-in-Some-clause-before : goal.returns-in-Some-clause-before
returns-in-Some-clause-before c =
    before_at (λ u. u == c.args.separator) c.args.units.now _ _ (sym c.place_of.ensures ∙ c.in-Some.is) c.split_at.ensures.front

pub returns-in-Some-clause-behind : goal.returns-in-Some-clause-behind
returns-in-Some-clause-behind c =
    behind_at (λ u. u == c.args.separator) c.args.units.now _ _ (sym c.place_of.ensures ∙ c.in-Some.is) c.split_at.ensures.back

pub returns-in-Some-clause-pieces : goal.returns-in-Some-clause-pieces
returns-in-Some-clause-pieces c =
    pieces_at (λ u. u == c.args.separator) c.args.units.now _ _ _ (sym c.place_of.ensures ∙ c.in-Some.is) c.split_at.ensures.front c.split_at.ensures.back

pub returns-in-None-clause-nothing : goal.returns-in-None-clause-nothing
returns-in-None-clause-nothing c = behind_none (λ u. u == c.args.separator) c.args.units.now (sym c.place_of.ensures ∙ c.in-None.is)

pub returns-in-None-clause-pieces : goal.returns-in-None-clause-pieces
returns-in-None-clause-pieces c = pieces_none (λ u. u == c.args.separator) c.args.units.now (sym c.place_of.ensures ∙ c.in-None.is)
