use Rattle.std.proofs.Common.{◌<◌, ◌≤◌, ◌-◌, ◌∙◌, length, slice_get, sym, ap, refl, arith}
use Rattle.std.specs.Vec.{vec_len}
use Rattle.std.proofs.lemmas.Option.{slice_get_read}
use Rattle.shared_list.specs.Slots.{written_of}
use Rattle.shared_list.proofs.PartLemmas.{length-items, own_at, written_at, own_slot, has_item, with_own-behind, with_own-among}
use Rattle.shared_list.proofs.parts.Parts.own_mut.Goals as goal

pub index_mut-requires : goal.index_mut-requires
index_mut-requires g c =
    let p = c.args.self.now in
    let count = c.len-shared.ensures ∙ ap vec_len c.deref.ensures ∙ p.base.value.ok.0 in
    omega (arith, count, c.requires.within, c.if-at-shared.true, length-items p, p.own.ok.0)

pub returns-then-at-shared : goal.returns-then-at-shared
returns-then-at-shared g c =
    let p = c.args.self.now in
    let at = c.args.at in
    let n = c.len-shared.result in
    let count = c.len-shared.ensures ∙ ap vec_len c.deref.ensures ∙ p.base.value.ok.0 in
    let past : length p.base.value.items ≤ at = omega (arith, count, c.if-at-shared.true) in
    let within : at - n < vec_len p.own = omega (arith, count, c.requires.within, c.if-at-shared.true, length-items p, p.own.ok.0) in
    let read = slice_get_read p.own.items (vec_len p.own) (at - n) c.index_mut.result.now p.own.ok.0 within c.index_mut.ensures.value in (
      (refl, λ w. with_own-behind p at n w count c.if-at-shared.true),
      record { lends = tt; value = own_at p.base.value.items p.written.items p.own.items at past ∙ ap (λ m. slice_get p.own.items (at - m)) (sym count) ∙ read },
    )

pub index_mut-slot-requires : goal.index_mut-slot-requires
index_mut-slot-requires g c =
    let p = c.args.self.now in
    let count = c.len-shared.ensures ∙ ap vec_len c.deref.ensures ∙ p.base.value.ok.0 in
    let there = own_slot p c.args.at c.requires (omega (arith, count, c.if-at-shared.false)) in
    omega (arith, there.fits, p.written.ok.0)

pub value_mut-requires : goal.value_mut-requires
value_mut-requires g c =
    let p = c.args.self.now in
    let at = c.args.at in
    let count = c.len-shared.ensures ∙ ap vec_len c.deref.ensures ∙ p.base.value.ok.0 in
    let there = own_slot p c.args.at c.requires (omega (arith, count, c.if-at-shared.false)) in
    let read = slice_get_read p.written.items (vec_len p.written) at c.index_mut-slot.result.now p.written.ok.0 (omega (arith, there.fits, p.written.ok.0)) c.index_mut-slot.ensures.value in
    has_item _ there.item (ap written_of (sym read) ∙ there.written)

pub returns : goal.returns
returns g c =
    let p = c.args.self.now in
    let at = c.args.at in
    let count = c.len-shared.ensures ∙ ap vec_len c.deref.ensures ∙ p.base.value.ok.0 in
    let within : at < length p.base.value.items = omega (arith, count, c.if-at-shared.false) in
    let there = own_slot p c.args.at c.requires within in
    let read = slice_get_read p.written.items (vec_len p.written) at c.index_mut-slot.result.now p.written.ok.0 (omega (arith, there.fits, p.written.ok.0)) c.index_mut-slot.ensures.value in (
      (refl, λ w. with_own-among p at c.index_mut-slot.result.now w within read),
      record { lends = tt; value = written_at p.base.value.items p.written.items p.own.items at c.value_mut.result.now within (ap written_of read ∙ c.value_mut.ensures.value) },
    )
