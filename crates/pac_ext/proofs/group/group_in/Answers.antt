use Rattle.std.proofs.Common.{◌≡◌, sym, ◌∙◌, ap, length, arith}
use Rattle.pac_ext.specs.Groups.{group_in}
use Rattle.pac_ext.proofs.Digits.{four-units}
use Rattle.pac_ext.proofs.group.group_in.Goals as goal

pub returns-in-len4 : goal.returns-in-len4
returns-in-len4 c =
    let four : length c.args.piece.now ≡ 4 = omega arith in
    c.four_digits-in-len4.ensures ∙ ap group_in (sym (four-units c.args.piece.now four))
