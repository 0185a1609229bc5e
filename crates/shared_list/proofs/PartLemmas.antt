-- What stands in the places of a list that shares its beginning, and how writes change it.
use Rattle.std.proofs.Common.{◌≡◌, ℕ, ◌+◌, ◌-◌, ◌<◌, ◌≤◌, ◌⊎◌, zero, suc, List, [], ◌∷◌, ◌++◌, true, false, Option, Some, None, is_some, IsSome, slice_get, length, length-append, set, map, refl, sym, ap, ◌∙◌, arith, cond, ⊎_elim, inl, inr}
use Rattle.std.specs.Option.{unwrap_or, option_copied}
use Rattle.std.specs.Slice.{IsItemAt}
use Rattle.std.specs.Borrow.{Bor}
use Rattle.std.proofs.lemmas.Bool.{cases_Bool, ltb-true, ltb-false}
use Rattle.std.specs.Prelude.{nat_le}
use Rattle.std.specs.Vec.{with_item}
use Rattle.std.proofs.lemmas.Bool.Decides.{nat_tests}
use Rattle.std.proofs.lemmas.Option.{get_or_from_slice_get, slice_get_past, slice_get_read, slice_get_within}
use Rattle.std.proofs.lemmas.List.{set-get_or, set-append_left, set-append_right}
use Rattle.shared_list.specs.Slots.{written_in, slot_with, written_of, merged}
use Rattle.shared_list.specs.Parts.{items_of, shared_count, IsOwn, with_own, with_slot}
use Rattle.shared_list.specs.declared.parts.Parts.{Parts}
use Rattle.shared_list.specs.declared.slot.Slot.{Slot}
use Rattle.shared_list.specs.declared.slot.Slot.TheVariants.{Shared, Written}

is_not_below : (n at : ℕ) → n ≤ at → nat_le n at ≡ true
is_not_below n at past = grind (arith, nat_tests)

is_below : (n at : ℕ) → at < n → nat_le n at ≡ false
is_below n at within = grind (arith, nat_tests)

behind_or_among : (n at : ℕ) → (n ≤ at) ⊎ (at < n)
behind_or_among n at = ⊎_elim
    (λ past. inl (grind (arith, nat_tests, past)))
    (λ within. inr (grind (arith, nat_tests, within)))
    (cases_Bool (nat_le n at))

pub get-set : {X : Type 0} (xs : List X) (at : ℕ) (x : X) → at < length xs → slice_get (set xs at x) at ≡ Some x
get-set [] at x within = absurd (omega (arith, within))
get-set (y ∷ xs) zero x within = refl
get-set (y ∷ xs) (suc at) x within = get-set xs at x (omega (arith, within))

pub no_items : {X : Type 0} (xs : List X) → length xs ≤ 0 → xs ≡ []
no_items [] none = refl
no_items (x ∷ xs) none = absurd (omega (arith, none))

module _ {T : Type 0} where
  -- the item that code finds
  pub looked_up : (xs : List T) (at : ℕ) (item : Option (Bor T)) → IsItemAt xs at item → option_copied item ≡ slice_get xs at
  looked_up xs at None is = sym (slice_get_past xs at (ltb-false at (length xs) (sym is.0)))
  looked_up xs at (Some x) is = sym (slice_get_read xs (length xs) at x.now refl (ltb-true at (length xs) (sym is.0)) is.1)

  pub not_there : (item : Option (Bor T)) → is_some item ≡ false → option_copied item ≡ None
  not_there None is = refl
  not_there (Some x) is = absurd (cc)

  pub length-merged : (xs : List T) (slots : List (Slot T)) → length (merged xs slots) ≡ length xs
  length-merged [] slots = refl
  length-merged (x ∷ xs) [] = refl
  length-merged (x ∷ xs) (slot ∷ slots) = ap suc (length-merged xs slots)

  pub merged-nothing : (xs : List T) → merged xs [] ≡ xs
  merged-nothing [] = refl
  merged-nothing (x ∷ xs) = refl

  get_left : (xs ys : List T) (at : ℕ) → at < length xs → slice_get (xs ++ ys) at ≡ slice_get xs at
  get_left [] ys at within = absurd (omega (arith, within))
  get_left (x ∷ xs) ys zero within = refl
  get_left (x ∷ xs) ys (suc at) within = get_left xs ys at (omega (arith, within))

  get_right : (xs ys : List T) (at : ℕ) → length xs ≤ at → slice_get (xs ++ ys) at ≡ slice_get ys (at - length xs)
  get_right [] ys at past = let e : at ≡ at - 0 = omega arith in ap (slice_get ys) e
  get_right (x ∷ xs) ys zero past = absurd (omega (arith, past))
  get_right (x ∷ xs) ys (suc at) past =
      let e : at - length xs ≡ suc at - suc (length xs) = omega arith in
      get_right xs ys at (omega (arith, past)) ∙ ap (slice_get ys) e

  -- behind the shared items stand the own ones
  pub own_at : (xs : List T) (slots : List (Slot T)) (ys : List T) (at : ℕ) → length xs ≤ at → slice_get (merged xs slots ++ ys) at ≡ slice_get ys (at - length xs)
  own_at xs slots ys at past =
      let same = length-merged xs slots in
      get_right (merged xs slots) ys at (omega (arith, past, same)) ∙ ap (λ n. slice_get ys (at - n)) same

  -- where nothing was written stands the shared item
  pub merged_shared : (xs : List T) (slots : List (Slot T)) (at : ℕ) → written_of (slice_get slots at) ≡ None → slice_get (merged xs slots) at ≡ slice_get xs at
  merged_shared [] slots at shared = refl
  merged_shared (x ∷ xs) [] at shared = refl
  merged_shared (x ∷ xs) (Shared ∷ slots) zero shared = refl
  merged_shared (x ∷ xs) (Written item ∷ slots) zero shared = absurd (cc)
  merged_shared (x ∷ xs) (slot ∷ slots) (suc at) shared = merged_shared xs slots at shared

  pub shared_at : (xs : List T) (slots : List (Slot T)) (ys : List T) (at : ℕ) → at < length xs → written_of (slice_get slots at) ≡ None → slice_get (merged xs slots ++ ys) at ≡ slice_get xs at
  shared_at xs slots ys at within shared =
      get_left (merged xs slots) ys at (omega (arith, within, length-merged xs slots)) ∙ merged_shared xs slots at shared

  -- what was written stands there
  merged_written : (xs : List T) (slots : List (Slot T)) (at : ℕ) (y : T) → at < length xs → written_of (slice_get slots at) ≡ Some y → slice_get (merged xs slots) at ≡ Some y
  merged_written [] slots at y within written = absurd (omega (arith, within))
  merged_written (x ∷ xs) [] at y within written = absurd (cc)
  merged_written (x ∷ xs) (s ∷ slots) zero y within written = ap (λ o. Some (unwrap_or o x)) written
  merged_written (x ∷ xs) (s ∷ slots) (suc at) y within written = merged_written xs slots at y (omega (arith, within)) written

  pub written_at : (xs : List T) (slots : List (Slot T)) (ys : List T) (at : ℕ) (y : T) → at < length xs → written_of (slice_get slots at) ≡ Some y → slice_get (merged xs slots ++ ys) at ≡ Some y
  written_at xs slots ys at y within written =
      get_left (merged xs slots) ys at (omega (arith, within, length-merged xs slots)) ∙ merged_written xs slots at y within written

  -- a write into a place changes the item there
  pub merged-set : (xs : List T) (slots : List (Slot T)) (at : ℕ) (slot : Slot T) (y : T) → at < length slots → written_in slot ≡ Some y → merged xs (set slots at slot) ≡ set (merged xs slots) at y
  merged-set [] slots at slot y within written = refl
  merged-set (x ∷ xs) [] at slot y within written = absurd (omega (arith, within))
  merged-set (x ∷ xs) (s ∷ slots) zero slot y within written = ap (λ o. unwrap_or o x ∷ merged xs slots) written
  merged-set (x ∷ xs) (s ∷ slots) (suc at) slot y within written =
      ap (λ rest. unwrap_or (written_in s) x ∷ rest) (merged-set xs slots at slot y (omega (arith, within)) written)

  -- what stands in a place, written there, changes nothing
  pub merged-copied : (xs : List T) (slots : List (Slot T)) (at : ℕ) (slot : Slot T) (y : T) → at < length slots → slice_get (merged xs slots) at ≡ Some y → written_in slot ≡ Some y → merged xs (set slots at slot) ≡ merged xs slots
  merged-copied xs slots at slot y within stands written =
      merged-set xs slots at slot y within written
      ∙ ap (set (merged xs slots) at) (sym (get_or_from_slice_get (merged xs slots) at y y stands))
      ∙ set-get_or (merged xs slots) at y

  -- one place more in which nothing was written changes nothing
  pub merged-more : (xs : List T) (slots : List (Slot T)) → merged xs (slots ++ Shared ∷ []) ≡ merged xs slots
  merged-more [] slots = refl
  merged-more (x ∷ []) [] = refl
  merged-more (x ∷ y ∷ xs) [] = refl
  merged-more (x ∷ xs) (s ∷ slots) = ap (λ rest. unwrap_or (written_in s) x ∷ rest) (merged-more xs slots)

  -- only what was written matters of a place
  pub merged-same : (xs : List T) (slots others : List (Slot T)) → map written_in slots ≡ map written_in others → merged xs slots ≡ merged xs others
  merged-same [] slots others same = refl
  merged-same (x ∷ xs) [] [] same = refl
  merged-same (x ∷ xs) [] (o ∷ others) same = absurd (cc)
  merged-same (x ∷ xs) (s ∷ slots) [] same = absurd (cc)
  merged-same (x ∷ xs) (s ∷ slots) (o ∷ others) same =
      let first : written_in s ≡ written_in o = cc in
      let rest : map written_in slots ≡ map written_in others = cc in
      ap (λ w. unwrap_or w x ∷ merged xs slots) first ∙ ap (λ more. unwrap_or (written_in o) x ∷ more) (merged-same xs slots others rest)

  -- ---- the parts

  pub length-items : (p : Parts T) → length (items_of p) ≡ shared_count p + length p.own.items
  length-items p = length-append (merged p.base.value.items p.written.items) p.own.items ∙ ap (λ n. n + length p.own.items) (length-merged p.base.value.items p.written.items)

  -- a place in which something was written
  pub record IsWrittenAt (p : Parts T) (at : ℕ) : Type 0 where
    pub slot : Slot T
    pub item : T
    pub stands : slice_get p.written.items at ≡ Some slot
    pub has : written_in slot ≡ Some item
    pub written : written_of (slice_get p.written.items at) ≡ Some item
    pub fits : at < length p.written.items

  pub has_item : (slot : Slot T) (x : T) → written_in slot ≡ Some x → IsSome (written_in slot)
  has_item Shared x has = absurd (cc)
  has_item (Written item) x has = refl

  written_slot : (p : Parts T) (at : ℕ) (o : Option (Slot T)) → slice_get p.written.items at ≡ o → is_some (written_of o) ≡ true → IsWrittenAt p at
  written_slot p at None is written = absurd (cc)
  written_slot p at (Some Shared) is written = absurd (cc)
  written_slot p at (Some (Written item)) is written = record { slot = Written item; item = item.value; stands = is; has = refl; written = ap written_of is; fits = slice_get_within p.written.items at (Written item) is }

  -- a place of an item that is not shared, among the shared ones
  pub own_slot : (p : Parts T) (at : ℕ) → IsOwn p at → at < shared_count p → IsWrittenAt p at
  own_slot p at own within = ⊎_elim
      (λ past. absurd (omega (arith, past, within)))
      (λ written. written_slot p at _ refl written)
      own.own

  -- the item after a write, behind the shared ones and among them
  pub with_own-behind : (p : Parts T) (at n : ℕ) (x : T) → n ≡ shared_count p → n ≤ at → record p { own = with_item p.own (at - n) x } ≡ with_own p at x
  with_own-behind p at n x count past =
      ap (λ m. record p { own = with_item p.own (at - m) x }) count
      ∙ sym (ap (λ b. cond b (record p { own = with_item p.own (at - shared_count p) x }) (with_slot p at x (slice_get p.written.items at))) (is_not_below (shared_count p) at (omega (arith, count, past))))

  pub with_own-among : (p : Parts T) (at : ℕ) (slot : Slot T) (x : T) → at < shared_count p → slice_get p.written.items at ≡ Some slot → record p { written = with_item p.written at (slot_with slot x) } ≡ with_own p at x
  with_own-among p at slot x within stands =
      sym (ap (with_slot p at x) stands)
      ∙ sym (ap (λ b. cond b (record p { own = with_item p.own (at - shared_count p) x }) (with_slot p at x (slice_get p.written.items at))) (is_below (shared_count p) at within))

  written_in-with : (slot : Slot T) (y x : T) → written_in slot ≡ Some y → written_in (slot_with slot x) ≡ Some x
  written_in-with Shared y x written = absurd (cc)
  written_in-with (Written item) y x written = refl

  items-among : (p : Parts T) (at : ℕ) (x : T) → at < shared_count p → IsWrittenAt p at → items_of (with_own p at x) ≡ set (items_of p) at x
  items-among p at x within there =
      let xs = p.base.value.items in
      let slots = p.written.items in
      ap items_of (sym (with_own-among p at there.slot x within there.stands))
      ∙ ap (λ l. l ++ p.own.items) (merged-set xs slots at (slot_with there.slot x) x there.fits (written_in-with there.slot there.item x there.has))
      ∙ sym (set-append_left (merged xs slots) p.own.items at x (omega (arith, within, length-merged xs slots)))

  items-behind : (p : Parts T) (at : ℕ) (x : T) → shared_count p ≤ at → items_of (with_own p at x) ≡ set (items_of p) at x
  items-behind p at x past =
      let xs = p.base.value.items in
      ap items_of (sym (with_own-behind p at (shared_count p) x refl past))
      ∙ sym (set-append_right (merged xs p.written.items) p.own.items (shared_count p) at x (length-merged xs p.written.items) past)

  -- the list after a write of an item that is not shared
  pub items-with_own : (p : Parts T) (at : ℕ) (x : T) → IsOwn p at → items_of (with_own p at x) ≡ set (items_of p) at x
  items-with_own p at x own = ⊎_elim
      (λ past. items-behind p at x past)
      (λ within. items-among p at x within (own_slot p at own within))
      (behind_or_among (shared_count p) at)
