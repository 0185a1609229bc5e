use Rattle.std.proofs.Common.{◌≡◌, ◌<◌, ◌∙◌, ◌++◌, Some, None, length, get_or, is_some, slice_get, sym, ap, subst, refl, arith, inr}
use Rattle.std.specs.Vec.{vec_len}
use Rattle.std.proofs.lemmas.Option.{slice_get_read}
use Rattle.shared_list.specs.Slots.{written_of}
use Rattle.shared_list.specs.declared.slot.Slot.TheVariants.{Written}
use Rattle.shared_list.proofs.PartLemmas.{not_there, merged_shared, merged-copied, get-set}
use Rattle.shared_list.proofs.parts.Parts.unshare.Goals as goal

pub returns-clause-same : goal.returns-clause-same
returns-clause-same g c =
    let p = c.args.self.now in
    let at = c.args.at in
    let xs = p.base.value.items in
    let slots = c.fill.new.written.items in
    let item = c.in_ok-item.item in
    let within : at < length xs = omega (arith, c.if-at-len.false, c.len.ensures ∙ ap vec_len c.deref.ensures ∙ p.base.value.ok.0) in
    let shared : written_of (slice_get p.written.items at) ≡ None =
    ap (λ s. written_of (slice_get s at)) (sym c.deref-else-at-len.ensures.value) ∙ sym c.written_at.ensures ∙ not_there _ (sym c.is_some.ensures ∙ c.if-is_some.false) in
    let stands : slice_get xs at ≡ Some item.value =
    slice_get_read xs (length xs) at c.index.result.now refl within (c.index.ensures ∙ ap (λ v. get_or v.items at c.index.result.now) c.deref-2.ensures)
    ∙ ap (λ x. Some x) (sym (c.in_ok-item.ensures.ok ∙ c.in_ok-copied.ensures)) in
    let there = ap (λ l. slice_get l at) (c.in_ok-fill.ensures.same xs) ∙ merged_shared xs p.written.items at shared ∙ stands in
    let room : at < length slots = omega (arith, within, c.in_ok-fill.ensures.enough) in
    ap (λ l. l ++ p.own.items) (merged-copied xs slots at (Written item) item.value room there refl ∙ c.in_ok-fill.ensures.same xs)

pub returns-clause-own : goal.returns-clause-own
returns-clause-own g c =
    let xs = c.args.self.now.base.value.items in
    let within : c.args.at < length xs = omega (arith, c.if-at-len.false, c.len.ensures ∙ ap vec_len c.deref.ensures ∙ c.args.self.now.base.value.ok.0) in
    let room : c.args.at < length c.fill.new.written.items = omega (arith, within, c.in_ok-fill.ensures.enough) in
    record {
      within = subst (λ l. c.args.at < length l) (sym (returns-clause-same g c)) c.requires;
      own = inr (ap (λ o. is_some (written_of o)) (get-set c.fill.new.written.items c.args.at (Written c.in_ok-item.item) room));
    }
