-- A name from a place on, which the walk along its labels goes by.
use Rattle.std.specs.Prelude.{◌≡◌, ℕ, suc, ◌+◌, ◌-◌, ◌*◌, ◌<◌, List, [], ◌∷◌, length, Option, Some, None}
use Rattle.dns_name.specs.Wire.{WireName, name_from}
use Rattle.dns_name.specs.declared.part.Part.{Part}
use Rattle.dns_name.specs.declared.part.Part.TheVariants.{End, Label, Pointer, Neither}
use Rattle.dns_name.specs.declared.place.Place.{Place}
use Rattle.dns_name.specs.declared.place.Next.{Next}
use Rattle.dns_name.specs.declared.place.Next.TheVariants as next

-- the name from an offset on, in the piece that begins at `piece`, in as many steps as it may need
unfoldable pub rest_of : List ℕ → ℕ → ℕ → Option WireName
rest_of message piece at = name_from (suc (piece * (length message + 1) + (length message - at))) message piece at

abbrev pub only_labels : Option WireName → Option (List (List ℕ))
only_labels None = None
only_labels (Some name) = Some name.labels

abbrev pub onto_labels : List ℕ → Option (List (List ℕ)) → Option (List (List ℕ))
onto_labels label None = None
onto_labels label (Some labels) = Some (label ∷ labels)

-- the labels from a place on
abbrev pub labels_from : List ℕ → Place → Option (List (List ℕ))
labels_from message place = only_labels (rest_of message place.piece place.at)

-- what a name goes on with
abbrev pub NextIs : List ℕ → Place → Next → Type 0
NextIs message place (next.Label label behind) = labels_from message place ≡ onto_labels label.now (labels_from message behind)
NextIs message place next.End = labels_from message place ≡ Some []
NextIs message place next.Neither = labels_from message place ≡ None

-- a part stands whole in the message
abbrev pub IsWhole : List ℕ → ℕ → Part → Type 0
IsWhole message at End = at < length message
IsWhole message at (Label n) = (at + n < length message) × (0 < n) × (n < 64)
IsWhole message at (Pointer target) = at + 1 < length message
IsWhole message at Neither = Unit {0}
