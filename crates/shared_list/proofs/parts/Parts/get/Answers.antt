use Rattle.std.proofs.Common.{◌<◌, ◌≤◌, ◌-◌, ◌∙◌, length, slice_get, sym, ap, subst, arith}
use Rattle.std.specs.Option.{option_copied}
use Rattle.std.specs.Slice.{IsItemAt}
use Rattle.std.specs.Vec.{vec_len}
use Rattle.shared_list.specs.Slots.{written_of}
use Rattle.shared_list.proofs.PartLemmas.{looked_up, own_at, shared_at, written_at}
use Rattle.shared_list.proofs.parts.Parts.get.Goals as goal

pub returns-then-at-shared : goal.returns-then-at-shared
returns-then-at-shared g c =
    let p = c.args.self.now in
    let at = c.args.at in
    let count = c.len-shared.ensures ∙ ap vec_len c.deref.ensures ∙ p.base.value.ok.0 in
    let past : length p.base.value.items ≤ at = omega (arith, count, c.if-at-shared.true) in
    looked_up p.own.items (at - c.len-shared.result) c.get.result (subst (λ xs. IsItemAt xs (at - c.len-shared.result) c.get.result) c.deref-then-at-shared.ensures.value c.get.ensures.lookup)
    ∙ ap (λ n. slice_get p.own.items (at - n)) count
    ∙ sym (own_at p.base.value.items p.written.items p.own.items at past)

pub returns-in-Some : goal.returns-in-Some
returns-in-Some g c =
    let p = c.args.self.now in
    let at = c.args.at in
    let count = c.len-shared.ensures ∙ ap vec_len c.deref.ensures ∙ p.base.value.ok.0 in
    let within : at < length p.base.value.items = omega (arith, count, c.if-at-shared.false) in
    let written = ap (λ slots. written_of (slice_get slots at)) (sym c.deref-2.ensures.value) ∙ sym c.written_at.ensures ∙ ap option_copied c.in-Some.is in
    sym (written_at p.base.value.items p.written.items p.own.items at c.in-Some.item.now within written)

pub returns-in-None : goal.returns-in-None
returns-in-None g c =
    let p = c.args.self.now in
    let at = c.args.at in
    let xs = p.base.value.items in
    let count = c.len-shared.ensures ∙ ap vec_len c.deref.ensures ∙ p.base.value.ok.0 in
    let within : at < length p.base.value.items = omega (arith, count, c.if-at-shared.false) in
    let shared = ap (λ slots. written_of (slice_get slots at)) (sym c.deref-2.ensures.value) ∙ sym c.written_at.ensures ∙ ap option_copied c.in-None.is in
    looked_up xs at c.get-in-None.result (subst (λ ys. IsItemAt ys at c.get-in-None.result) (c.deref-in-None-2.ensures.value ∙ ap (λ v. v.items) c.deref-in-None.ensures) c.get-in-None.ensures.lookup)
    ∙ sym (shared_at xs p.written.items p.own.items at within shared)
