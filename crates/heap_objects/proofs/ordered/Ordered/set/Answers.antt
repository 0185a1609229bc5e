use Rattle.std.proofs.Common.{◌∙◌, ◌<◌, ◌++◌, ◌∷◌, [], Some, length, set, sym, ap, subst, arith}
use Rattle.std.specs.Option.{unwrap_or}
use Rattle.std.specs.Ordering.{nat_cmp}
use Rattle.std.specs.Cmp.Lexicographic.{slice_cmp}
use Rattle.std.specs.BTreeMap.{get}
use Rattle.heap_elements.specs.Properties.{with_property}
use Rattle.heap_objects.specs.Slots.{standing, IsIndexOf, Updated}
use Rattle.heap_objects.proofs.PlaceLemmas.{written_at, added, own_place, no_own_place, kept, withdrawn, index-same, index-written, index-added}
use Rattle.heap_objects.proofs.ordered.Ordered.set.Goals as goal

pub invariant_of-self-then-place-next : goal.invariant_of-self-then-place-next
invariant_of-self-then-place-next c =
    let row = c.self.inside.row.items in
    let name = c.args.name.now in
    let place = c.in_ok-place.place in
    let before = get (slice_cmp nat_cmp) c.self.inside.places in
    let after = get (slice_cmp nat_cmp) c.place_or.new.places in
    let own = own_place (before name) c.in-Some.next place (c.in_ok-place.ensures.place ∙ ap (λ n. unwrap_or (before n) c.in-Some.next) c.in_ok-copy.ensures) c.if-place-next.true in
    let updated = subst (λ n. Updated before n (Some place) after) c.in_ok-copy.ensures c.in_ok-place.ensures.after in
    let slots = c.write_slot.ensures ∙ ap (λ n. set row place (Some (n, c.args.property))) c.in_ok-held.ensures in
    subst (IsIndexOf after) (sym slots)
    (index-same before _ after (index-written before row name place c.args.property c.self.invariant own) (kept before name (Some place) after own updated))

pub returns-then-place-next-clause-ok : goal.returns-then-place-next-clause-ok
returns-then-place-next-clause-ok c =
    let row = c.self.inside.row.items in
    let name = c.args.name.now in
    let place = c.in_ok-place.place in
    let before = get (slice_cmp nat_cmp) c.self.inside.places in
    let own = own_place (before name) c.in-Some.next place (c.in_ok-place.ensures.place ∙ ap (λ n. unwrap_or (before n) c.in-Some.next) c.in_ok-copy.ensures) c.if-place-next.true in
    let slots = c.write_slot.ensures ∙ ap (λ n. set row place (Some (n, c.args.property))) c.in_ok-held.ensures in
    ap standing slots ∙ (written_at row name place c.args.property (sym (c.self.invariant.places name) ∙ own)).listed
    ∙ ap (λ ps. with_property ps name c.args.property) c.self.view_is

pub invariant_of-self-in-Ok : goal.invariant_of-self-in-Ok
invariant_of-self-in-Ok c =
    let row = c.self.inside.row.items in
    let name = c.args.name.now in
    let place = c.in_ok-place.place in
    let before = get (slice_cmp nat_cmp) c.self.inside.places in
    let after = get (slice_cmp nat_cmp) c.place_or.new.places in
    let next = c.in-Some.ensures.is ∙ ap length c.deref.ensures.value in
    let is = c.in_ok-place.ensures.place ∙ ap (λ n. unwrap_or (before n) c.in-Some.next) c.in_ok-copy.ensures ∙ ap (λ l. unwrap_or (before name) l) next in
    let none = no_own_place before row name place c.self.invariant is (omega (arith, next, c.if-place-next.false)) in
    let at_end = is ∙ ap (λ o. unwrap_or o (length row)) none in
    let room = subst (λ n. n < 4294967296) next c.in-Some.ensures.small in
    let updated = subst (λ n. Updated before name (Some n) after) at_end (subst (λ n. Updated before n (Some place) after) c.in_ok-copy.ensures c.in_ok-place.ensures.after) in
    let slots = c.in-Ok.ensures.ok ∙ ap (λ n. row ++ Some (n, c.args.property) ∷ []) c.in_ok-held.ensures in
    subst (IsIndexOf after) (sym slots) (index-added before row name c.args.property after c.self.invariant none room updated)

pub invariant_of-self-in-Err : goal.invariant_of-self-in-Err
invariant_of-self-in-Err c =
    let row = c.self.inside.row.items in
    let name = c.args.name.now in
    let place = c.in_ok-place.place in
    let before = get (slice_cmp nat_cmp) c.self.inside.places in
    let after = get (slice_cmp nat_cmp) c.place_or.new.places in
    let again = get (slice_cmp nat_cmp) c.remove_place.new.places in
    let next = c.in-Some.ensures.is ∙ ap length c.deref.ensures.value in
    let is = c.in_ok-place.ensures.place ∙ ap (λ n. unwrap_or (before n) c.in-Some.next) c.in_ok-copy.ensures ∙ ap (λ l. unwrap_or (before name) l) next in
    let none = no_own_place before row name place c.self.invariant is (omega (arith, next, c.if-place-next.false)) in
    let updated = subst (λ n. Updated before n (Some place) after) c.in_ok-copy.ensures c.in_ok-place.ensures.after in
    subst (IsIndexOf again) (sym c.in-Err.ensures.unchanged)
    (index-same before row again c.self.invariant (withdrawn before name (Some place) after again none updated c.remove_place.ensures.after))

pub returns-in-Ok-clause-ok : goal.returns-in-Ok-clause-ok
returns-in-Ok-clause-ok c =
    let row = c.self.inside.row.items in
    let name = c.args.name.now in
    let place = c.in_ok-place.place in
    let before = get (slice_cmp nat_cmp) c.self.inside.places in
    let next = c.in-Some.ensures.is ∙ ap length c.deref.ensures.value in
    let is = c.in_ok-place.ensures.place ∙ ap (λ n. unwrap_or (before n) c.in-Some.next) c.in_ok-copy.ensures ∙ ap (λ l. unwrap_or (before name) l) next in
    let none = no_own_place before row name place c.self.invariant is (omega (arith, next, c.if-place-next.false)) in
    let slots = c.in-Ok.ensures.ok ∙ ap (λ n. row ++ Some (n, c.args.property) ∷ []) c.in_ok-held.ensures in
    ap standing slots ∙ (added row name c.args.property (sym (c.self.invariant.places name) ∙ none)).listed
    ∙ ap (λ ps. with_property ps name c.args.property) c.self.view_is
