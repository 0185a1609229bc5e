use Rattle.std.proofs.Common.{◌≡◌, ◌∙◌, slice_get, slice_set, sym, ap, inl}
use Rattle.std.proofs.lemmas.Option.{get_or_from_slice_get}
use Rattle.shared_list.specs.Parts.{items_of, with_own}
use Rattle.shared_list.proofs.PartLemmas.{items-with_own}
use Rattle.shared_list.proofs.list.SharedList.get_mut.Goals as goal

pub returns : goal.returns
returns g c =
    let at = c.args.at in
    let same = c.unshare.ensures.same ∙ c.self.view_is in
    let own = c.in_ok-unshare.ensures.own in
    let kept : (w : g.row.T.Denot) → items_of (with_own c.unshare.new.self at w) ≡ slice_set c.args.self.now at w =
    λ w. items-with_own c.unshare.new.self at w own ∙ ap (λ l. slice_set l at w) same in (
      λ i. inl (c.own_mut.result.ghost_name, λ w. kept w i),
      record { writes_back = tt; value = sym (get_or_from_slice_get c.args.self.now at c.own_mut.result.now c.own_mut.result.now (ap (λ l. slice_get l at) (sym same) ∙ c.own_mut.ensures.value)) },
    )
