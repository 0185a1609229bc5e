-- Names as they are written: no pointers (RFC 1035, section 3.1).
use Rattle.std.specs.Prelude.{ℕ, ◌+◌, List, [], ◌∷◌, ◌++◌, length, take, drop}
use Rattle.std.specs.List.{flat_map}
use Rattle.pac_names.specs.Labels.{labels_of}

-- a label with its length before it
abbrev pub wire_label : List ℕ → List ℕ
wire_label label = length label ∷ label

-- the labels in order, closed by the zero octet of the root
abbrev pub wire_name : List ℕ → List ℕ
wire_name name = flat_map wire_label (labels_of name) ++ (0 ∷ [])

-- octets written over those from an offset on
abbrev pub overwritten : List ℕ → ℕ → List ℕ → List ℕ
overwritten octets at new = take at octets ++ new ++ drop (at + length new) octets
