use Rattle.std.proofs.Common.{◌∙◌, ◌≡◌, length, arith}
use Rattle.pac_ext.proofs.Eights.{address_of-eight}
use Rattle.pac_ext.proofs.group.address_of.Goals as goal

pub returns : goal.returns
returns c =
    let eight : length c.args.groups.now ≡ 8 = omega arith in
    address_of-eight c.args.groups.now c.from.result c.from-2.result eight (c.from.ensures ∙ c.half-high.ensures) (c.from-2.ensures ∙ c.half-low.ensures)
