-- Names in messages (RFC 1035, sections 2.3.4, 3.1 and 4.1.4). An offset counts octets from the message's start.
use Rattle.std.specs.Prelude.{ℕ, zero, suc, ◌+◌, ◌-◌, ◌*◌, List, [], ◌∷◌, Bool, false, ◌==◌, nat_eq, nat_lt, nat_le, length, map, slice_index, slice_range, if◌then◌else◌, Option, Some, None}
use Rattle.std.specs.Char.{to_ascii_lowercase}
use Rattle.std.specs.Cmp.Lexicographic.{pointwise}
use Rattle.pac_names.specs.Labels.{labels_of, labels_length}
use Rattle.dns_name.specs.declared.part.Part.{Part}
use Rattle.dns_name.specs.declared.part.Part.TheVariants.{End, Label, Pointer, Neither}

-- where a pointer leads: the 14 low bits of its two octets
abbrev pub target_at : List ℕ → ℕ → ℕ
target_at message at = (slice_index message at - 192) * 256 + slice_index message (at + 1)

-- a label with its length before it, whole in the message
abbrev pub label_at : List ℕ → ℕ → Part
label_at message at = if nat_lt (at + slice_index message at) (length message) then Label (slice_index message at) else Neither

-- two octets, whole in the message
abbrev pub pointer_at : List ℕ → ℕ → Part
pointer_at message at = if nat_lt (at + 1) (length message) then Pointer (target_at message at) else Neither

-- What stands at an offset: the zero octet of the root, a label of 1 to 63 octets (top bits 00), or a pointer (11).
unfoldable pub part_at : List ℕ → ℕ → Part
part_at message at =
    if nat_le (length message) at then Neither
    else if slice_index message at == 0 then End
    else if nat_lt (slice_index message at) 64 then label_at message at
    else if nat_lt (slice_index message at) 192 then Neither
    else pointer_at message at

-- the labels of a name, and the offset behind what stands of it in its own place
pub record WireName : Type 0 where
  pub labels : List (List ℕ)
  pub behind : ℕ

abbrev pub with_label : List ℕ → Option WireName → Option WireName
with_label label None = None
with_label label (Some name) = Some (record { labels = label ∷ name.labels; behind = name.behind })

abbrev pub with_behind : ℕ → Option WireName → Option WireName
with_behind behind None = None
with_behind behind (Some name) = Some (record { labels = name.labels; behind = behind })

-- A pointer leads to before the start of the piece in which it stands (this project's rule; it ends each walk).
abbrev pub by_part : List ℕ → ℕ → ℕ → (ℕ → ℕ → Option WireName) → Part → Option WireName
by_part message piece at rest End = Some (record { labels = []; behind = at + 1 })
by_part message piece at rest (Label n) = with_label (slice_range message (at + 1) (at + 1 + n)) (rest piece (at + 1 + n))
by_part message piece at rest (Pointer target) = if nat_lt target piece then with_behind (at + 2) (rest target target) else None
by_part message piece at rest Neither = None

-- what a name is from an offset on, in the piece that begins at `piece`, in so many steps
unfoldable pub name_from : ℕ → List ℕ → ℕ → ℕ → Option WireName
name_from zero message piece at = None
name_from (suc steps) message piece at = by_part message piece at (name_from steps message) (part_at message at)

-- spelled out, each label with its length and the root, a name has at most 255 octets
abbrev pub within_limit : Option WireName → Option WireName
within_limit None = None
within_limit (Some name) = if nat_le (labels_length name.labels + 1) 255 then Some name else None

-- The name at an offset. So many steps are enough: each goes further in its piece, or to a piece nearer to the front.
unfoldable pub name_at : List ℕ → ℕ → Option WireName
name_at message at = within_limit (name_from ((at + 1) * (length message + 1)) message at at)

-- the offset behind a name
abbrev pub behind_of : Option WireName → Option ℕ
behind_of None = None
behind_of (Some name) = Some name.behind

-- ASCII case aside (RFC 1035, section 2.3.3)
abbrev pub lowered : List (List ℕ) → List (List ℕ)
lowered labels = map (map to_ascii_lowercase) labels

abbrev pub lowered_of : Option WireName → Option (List (List ℕ))
lowered_of None = None
lowered_of (Some name) = Some (lowered name.labels)

-- the labels of the name at an offset, in lower case
abbrev pub labels_at : List ℕ → ℕ → Option (List (List ℕ))
labels_at message at = lowered_of (name_at message at)

-- whether two lists of labels are equal
abbrev pub same_labels : List (List ℕ) → List (List ℕ) → Bool
same_labels xs ys = pointwise (pointwise nat_eq) xs ys

-- whether labels were found, and are these
abbrev pub are_labels : Option (List (List ℕ)) → List (List ℕ) → Bool
are_labels None labels = false
are_labels (Some found) labels = same_labels found labels

-- whether the name at an offset is a lookup name
abbrev pub spells_name : List ℕ → ℕ → List ℕ → Bool
spells_name message at name = are_labels (labels_at message at) (labels_of name)

-- whether labels were found in both places, and are equal
abbrev pub are_same : Option (List (List ℕ)) → Option (List (List ℕ)) → Bool
are_same None other = false
are_same (Some labels) other = are_labels other labels

-- whether the names at two offsets are one
abbrev pub is_same_name : List ℕ → ℕ → ℕ → Bool
is_same_name message a b = are_same (labels_at message a) (labels_at message b)
