use Rattle.std.proofs.Common.{◌∙◌, ap, ◌/◌, ◌%◌, [], ◌∷◌, Some}
use Rattle.std.specs.Option.{option_map}
use Rattle.pac_ext.specs.Reading.{joined, at_most_eight}
use Rattle.pac_ext.proofs.Sides.{two-more}
use Rattle.pac_ext.proofs.side.with_quad.Goals as goal

pub returns : goal.returns
returns c =
    let quad = c.in_ok-quad.quad in
    c.with_group-2.ensures ∙ two-more c.args.groups.items c.in_ok-more.more.items (quad / 65536) (quad % 65536) c.in_ok-more.ensures
    ∙ ap (λ o. at_most_eight (joined (Some c.args.groups.items) (option_map (λ quad. quad / 65536 ∷ quad % 65536 ∷ []) o))) c.in_ok-quad.ensures
