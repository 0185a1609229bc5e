use Rattle.std.proofs.Common.{◌≤◌, ◌∙◌, ◌++◌, [], length, sym, ap, arith}
use Rattle.std.specs.Vec.{vec_len}
use Rattle.std.proofs.lemmas.List.{append-nil}
use Rattle.shared_list.specs.Slots.{merged}
use Rattle.shared_list.proofs.PartLemmas.{no_items, merged-nothing}
use Rattle.shared_list.proofs.parts.Parts.share.Goals as goal

pub returns : goal.returns
returns g c =
    let p = c.args.self in
    let own = p.own.items in
    let none : length p.base.value.items ≤ 0 = omega (arith, c.if-len-gt0.false, c.len.ensures ∙ ap vec_len c.deref.ensures ∙ p.base.value.ok.0) in
    ap (λ v. merged v.items c.new-2.result.items ++ c.new-3.result.items) c.in_ok-new.ensures.ok
    ∙ ap (λ slots. merged own slots ++ c.new-3.result.items) c.new-2.ensures.items
    ∙ ap (λ items. merged own [] ++ items) c.new-3.ensures.items
    ∙ append-nil (merged own [])
    ∙ merged-nothing own
    ∙ sym (ap (λ xs. merged xs p.written.items ++ own) (no_items p.base.value.items none))
