use Rattle.std.proofs.Common.{◌∙◌, ap}
use Rattle.pac_ext.specs.declared.side.Ending.TheVariants.{GroupOrQuad}
use Rattle.pac_ext.specs.Groups.{address_of}
use Rattle.pac_ext.specs.Reading.{side_in}
use Rattle.pac_ext.proofs.Sides.{full-is, full-none}
use Rattle.pac_ext.proofs.read.full.Goals as goal

pub returns-in_err-groups : goal.returns-in_err-groups
returns-in_err-groups c = c.from_residual.ensures ∙ full-none (side_in GroupOrQuad c.args.units.now) c.in_err-groups.ensures

pub returns : goal.returns
returns c =
    c.address_of.ensures ∙ ap address_of c.as_slice.ensures.value
    ∙ full-is (side_in GroupOrQuad c.args.units.now) c.in_ok-groups.groups.items c.in_ok-groups.ensures
