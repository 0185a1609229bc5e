-- Parts without parts of their own that change no group: where they lead from a place.
use Rattle.std.specs.Prelude.{ℕ, Bool, true, false, Option, Some, None}
use Rattle.js_pattern.specs.Tree.{Tree, unit, any, class, assertion, reference, row, alternatives, group, repeat}
use Rattle.js_pattern.specs.Place.{Subject}
use Rattle.js_pattern.specs.Leaves.{behind_unit, behind_any, behind_class, behind_assertion}

-- a part that takes one unit where it matches
abbrev pub is_single : Tree → Bool
is_single (unit u) = true
is_single any = true
is_single (class c) = true
is_single (assertion a) = false
is_single (reference n) = false
is_single (row xs) = false
is_single (alternatives xs) = false
is_single (group n x) = false
is_single (repeat x b) = false

abbrev pub behind_single : Subject → Tree → ℕ → Option ℕ
behind_single s (unit u) p = behind_unit s u p
behind_single s any p = behind_any s p
behind_single s (class c) p = behind_class s c p
behind_single s (assertion a) p = None
behind_single s (reference n) p = None
behind_single s (row xs) p = None
behind_single s (alternatives xs) p = None
behind_single s (group n x) p = None
behind_single s (repeat x b) p = None

-- the place behind it where it matches, if it is one unit or an assertion
abbrev pub behind_leaf : Subject → Tree → ℕ → Option (Option ℕ)
behind_leaf s (unit u) p = Some (behind_unit s u p)
behind_leaf s any p = Some (behind_any s p)
behind_leaf s (class c) p = Some (behind_class s c p)
behind_leaf s (assertion a) p = Some (behind_assertion s a p)
behind_leaf s (reference n) p = None
behind_leaf s (row xs) p = None
behind_leaf s (alternatives xs) p = None
behind_leaf s (group n x) p = None
behind_leaf s (repeat x b) p = None
