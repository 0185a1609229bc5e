use Rattle.std.proofs.Common.{◌∙◌, ◌++◌, map, ap}
use Rattle.shared_list.specs.Slots.{written_in, merged}
use Rattle.shared_list.proofs.PartLemmas.{merged-same}
use Rattle.shared_list.proofs.parts.Parts.copy.Goals as goal

pub returns : goal.returns
returns g c =
    let p = c.args.self.now in
    let slots = c.in_ok-copied_slots.field-0.items in
    let own = c.in_ok-copied_items.ensures ∙ c.deref-2.ensures.value in
    let written = c.in_ok-copied_slots.ensures ∙ ap (map written_in) c.deref.ensures.value in
    ap (λ v. merged v.items slots ++ c.in_ok-copied_items.field-0.items) c.in_ok-clone.ensures.cases
    ∙ ap (λ l. merged p.base.value.items slots ++ l) own
    ∙ ap (λ l. l ++ p.own.items) (merged-same p.base.value.items slots p.written.items written)
