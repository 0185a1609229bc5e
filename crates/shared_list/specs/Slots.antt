-- What was written in the places of shared items.
use Rattle.std.specs.Prelude.{List, [], ◌∷◌, Option, Some, None, unwrap_or}
use Rattle.shared_list.specs.declared.slot.Slot.{Slot}
use Rattle.shared_list.specs.declared.slot.Slot.TheVariants.{Shared, Written}

module _ {T : Type 0} where
  -- what was written in a place
  abbrev pub written_in : Slot T → Option T
  written_in Shared = None
  written_in (Written item) = Some item.value

  -- the place with another item, where one was written there
  abbrev pub slot_with : Slot T → T → Slot T
  slot_with Shared x = Shared
  slot_with (Written item) x = Written (record item { value = x })

  abbrev pub written_of : Option (Slot T) → Option T
  written_of None = None
  written_of (Some slot) = written_in slot

  -- shared items, but what was written in the place of one; a place that is not there has its shared item
  abbrev pub merged : List T → List (Slot T) → List T
  merged [] slots = []
  merged (x ∷ xs) [] = x ∷ xs
  merged (x ∷ xs) (slot ∷ slots) = unwrap_or (written_in slot) x ∷ merged xs slots
