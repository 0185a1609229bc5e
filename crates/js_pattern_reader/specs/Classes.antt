-- Classes (ECMA-262 5.1, sections 15.10.1 and 15.10.2.13 to 15.10.2.19).
use Rattle.std.specs.Prelude.{ℕ, zero, suc, Bool, true, false, nat_eq, nat_le, if◌then◌else◌, List, [], ◌∷◌, length, Option, Some, None, Result, Ok}
use Rattle.js_pattern.specs.declared.class.ClassItem.{ClassItem}
use Rattle.js_pattern.specs.declared.class.ClassItem.TheVariants as item
use Rattle.js_pattern.specs.declared.class.Class.{Class}
use Rattle.js_pattern_reader.specs.declared.answer.PatternAnswer.{PatternAnswer}
use Rattle.js_pattern_reader.specs.declared.escapes.ClassAtom.{ClassAtom}
use Rattle.js_pattern_reader.specs.declared.escapes.ClassAtom.TheVariants as atom
use Rattle.js_pattern_reader.specs.Answers.{Read, bad, ◌>>=◌}
use Rattle.js_pattern_reader.specs.Escapes.{class_escape_at}

abbrev pub behind_backslash : Read ClassAtom
behind_backslash [] = bad
behind_backslash (u ∷ us) = class_escape_at u us

-- any unit but a backslash (92), or an escape
abbrev pub class_atom : Read ClassAtom
class_atom [] = bad
class_atom (u ∷ us) = if nat_eq u 92 then behind_backslash us else Ok (atom.Unit u, us)

-- an atom by itself
abbrev pub item_of : ClassAtom → ClassItem
item_of (atom.Unit u) = item.Range u u
item_of (atom.Set s) = item.Set s

-- both ends of a range are units, in order
abbrev pub range_of : ClassAtom → ClassAtom → Result ClassItem PatternAnswer
range_of (atom.Unit a) (atom.Unit b) = if nat_le a b then Ok (item.Range a b) else bad
range_of _ _ = bad

-- The units behind the `-` (45) of a range, where one is here. Before `]` (93) a `-` stands for itself.
abbrev pub unless_end : List ℕ → Option (List ℕ)
unless_end [] = None
unless_end (u ∷ us) = if nat_eq u 93 then None else Some (u ∷ us)

abbrev pub behind_dash : List ℕ → Option (List ℕ)
behind_dash [] = None
behind_dash (u ∷ us) = if nat_eq u 45 then unless_end us else None

-- an atom, or a range of two
abbrev pub item_by : ClassAtom → List ℕ → Option (List ℕ) → Result (ClassItem × List ℕ) PatternAnswer
item_by a us None = Ok (item_of a, us)
item_by a us (Some vs) = class_atom vs >>= λ b. range_of a b.0 >>= λ i. Ok (i, b.1)

abbrev pub class_item : Read ClassItem
class_item us = class_atom us >>= λ a. item_by a.0 a.1 (behind_dash a.1)

-- the units behind `]` (93), where it is here
abbrev pub class_end : List ℕ → Option (List ℕ)
class_end [] = None
class_end (u ∷ us) = if nat_eq u 93 then Some us else None

-- Items up to `]`. Each takes a unit, so as many turns as there are units are enough.
abbrev pub items_by : List ℕ → Read (List ClassItem) → Option (List ℕ) → Result (List ClassItem × List ℕ) PatternAnswer
items_by us more (Some vs) = Ok ([], vs)
items_by us more None = class_item us >>= λ i. more i.1 >>= λ is. Ok (i.0 ∷ is.0, is.1)

abbrev pub items_from : ℕ → Read (List ClassItem)
items_from zero us = bad
items_from (suc turns) us = items_by us (items_from turns) (class_end us)

abbrev pub class_by : Bool → Read Class
class_by excludes us = items_from (length us) us >>= λ is. Ok (record { excludes = excludes; items = is.0 }, is.1)

-- a class behind `[`; `^` (94) turns it
abbrev pub class_of : Read Class
class_of [] = bad
class_of (u ∷ us) = if nat_eq u 94 then class_by true us else class_by false (u ∷ us)
