-- The parts of a list that shares its beginning.
use Rattle.std.specs.Prelude.{◌≡◌, ℕ, ◌-◌, ◌≤◌, ◌<◌, ◌⊎◌, true, List, ◌++◌, Option, Some, None, is_some, length, nat_le, if◌then◌else◌, slice_get}
use Rattle.std.specs.Vec.{with_item}
use Rattle.shared_list.specs.Slots.{slot_with, merged, written_of}
use Rattle.shared_list.specs.declared.slot.Slot.{Slot}
use Rattle.shared_list.specs.declared.parts.Parts.{Parts}

module _ {T : Type 0} where
  abbrev pub shared_count : Parts T → ℕ
  shared_count p = length p.base.value.items

  -- the list that the parts are
  abbrev pub items_of : Parts T → List T
  items_of p = merged p.base.value.items p.written.items ++ p.own.items

  -- the item at a place is not shared
  pub record IsOwn (p : Parts T) (at : ℕ) : Type 0 where
    pub within : at < length (items_of p)
    pub own : (shared_count p ≤ at) ⊎ (is_some (written_of (slice_get p.written.items at)) ≡ true)

  abbrev pub with_slot : Parts T → ℕ → T → Option (Slot T) → Parts T
  with_slot p at x None = p
  with_slot p at x (Some slot) = record p { written = with_item p.written at (slot_with slot x) }

  -- the parts with another item at a place that is not shared
  abbrev pub with_own : Parts T → ℕ → T → Parts T
  with_own p at x = if nat_le (shared_count p) at then record p { own = with_item p.own (at - shared_count p) x }
      else with_slot p at x (slice_get p.written.items at)
