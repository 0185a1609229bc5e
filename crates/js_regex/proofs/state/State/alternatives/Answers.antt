use Rattle.std.proofs.Common.{◌∙◌, sym}
use Rattle.js_pattern.specs.Tree.{trees_of}
use Rattle.js_regex.specs.Moves.{Begins}
use Rattle.js_regex.proofs.Lists.{first_of_list, if_ok}
use Rattle.js_regex.proofs.Steps.{alternatives_go}
use Rattle.js_regex.proofs.state.State.alternatives.Goals as goal

pub returns-in-len1-up : goal.returns-in-len1-up
returns-in-len1-up c =
    if_ok c.preferred.result
    (λ next (h : Begins _ _ _ next) s.
    h.goes s
    ∙ alternatives_go s c.args.all.now _ _ (trees_of c.args.others.now) _ _
    (sym c.as_slice.ensures ∙ first_of_list c.as_slice.result.now _ c.first-item.is c.in-len1-up.len_at_least)
    c.in_ok-save.ensures)
    c.preferred.ensures
