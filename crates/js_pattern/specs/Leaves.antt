-- Where a part without parts leads from a place, if it matches there (ECMA-262 5.1, sections 15.10.2.6 to 15.10.2.14).
use Rattle.std.specs.Prelude.{ℕ, zero, suc, ◌+◌, ◌-◌, Bool, true, false, not, ◌&&◌, ◌||◌, nat_eq, List, [], ◌∷◌, Option, Some, None, take, drop, length, slice_get, if◌then◌else◌}
use Rattle.utf16_text.specs.Letters.{is_between, is_break_unit, is_space_unit, lower_unit, upper_unit}
use Rattle.utf16_text.specs.Digits.{is_digit}
use Rattle.js_pattern.specs.declared.span.Span.{Span}
use Rattle.js_pattern.specs.declared.class.Set.{Set}
use Rattle.js_pattern.specs.declared.class.Set.TheVariants.{Digit, NoDigit, Word, NoWord, Space, NoSpace}
use Rattle.js_pattern.specs.declared.class.ClassItem.{ClassItem}
use Rattle.js_pattern.specs.declared.class.ClassItem.TheVariants as item
use Rattle.js_pattern.specs.declared.class.Class.{Class}
use Rattle.js_pattern.specs.declared.node.Assertion.{Assertion}
use Rattle.js_pattern.specs.declared.node.Assertion.TheVariants.{Start, End, Boundary, NoBoundary}
use Rattle.js_pattern.specs.Place.{Subject}

abbrev pub place_if : Bool → ℕ → Option ℕ
place_if true p = Some p
place_if false p = None

-- the place behind the unit that is here, where there is one that meets the test
abbrev pub behind_one : (ℕ → Bool) → ℕ → Option ℕ → Option ℕ
behind_one test p None = None
behind_one test p (Some v) = place_if (test v) (p + 1)

-- ---- units and classes

-- digits, ASCII letters and `_` (IsWordChar of 15.10.2.6)
abbrev pub is_word : ℕ → Bool
is_word u = is_digit u || is_between 65 90 u || nat_eq u 95 || is_between 97 122 u

-- the sets that have an escape of their own (15.10.2.12)
abbrev pub in_set : Set → ℕ → Bool
in_set Digit u = is_digit u
in_set NoDigit u = not (is_digit u)
in_set Word u = is_word u
in_set NoWord u = not (is_word u)
in_set Space u = is_space_unit u
in_set NoSpace u = not (is_space_unit u)

abbrev pub in_item : ClassItem → ℕ → Bool
in_item (item.Range first last) u = is_between first last u
in_item (item.Set s) u = in_set s u

abbrev pub in_items : List ClassItem → ℕ → Bool
in_items [] u = false
in_items (i ∷ is) u = in_item i u || in_items is u

-- a unit for comparing (Canonicalize of 15.10.2.8, for ASCII letters alone)
abbrev pub folded : Bool → ℕ → ℕ
folded ignore u = if ignore then lower_unit u else u

abbrev pub same_unit : Bool → ℕ → ℕ → Bool
same_unit ignore u v = nat_eq (folded ignore u) (folded ignore v)

-- the items have the unit or, without case, the same letter in the other case
abbrev pub has_unit : Bool → List ClassItem → ℕ → Bool
has_unit ignore is u = in_items is u || ignore && (in_items is (lower_unit u) || in_items is (upper_unit u))

abbrev pub differ : Bool → Bool → Bool
differ false b = b
differ true b = not b

abbrev pub in_class : Bool → Class → ℕ → Bool
in_class ignore c u = differ c.excludes (has_unit ignore c.items u)

abbrev pub behind_unit : Subject → ℕ → ℕ → Option ℕ
behind_unit s u p = behind_one (same_unit s.flags.ignore_case u) p (slice_get s.text p)

abbrev pub behind_any : Subject → ℕ → Option ℕ
behind_any s p = behind_one (λ v. not (is_break_unit v)) p (slice_get s.text p)

abbrev pub behind_class : Subject → Class → ℕ → Option ℕ
behind_class s c p = behind_one (in_class s.flags.ignore_case c) p (slice_get s.text p)

-- ---- assertions (15.10.2.6)

abbrev pub is_some_such : (ℕ → Bool) → Option ℕ → Bool
is_some_such test None = false
is_some_such test (Some v) = test v

abbrev pub unit_before : List ℕ → ℕ → Option ℕ
unit_before us zero = None
unit_before us (suc p) = slice_get us p

-- one of the two units beside the place is of a word
abbrev pub is_boundary : List ℕ → ℕ → Bool
is_boundary us p = differ (is_some_such is_word (unit_before us p)) (is_some_such is_word (slice_get us p))

abbrev pub is_asserted : Subject → Assertion → ℕ → Bool
is_asserted s Start p = nat_eq p 0 || s.flags.multiline && is_some_such is_break_unit (unit_before s.text p)
is_asserted s End p = nat_eq p (length s.text) || s.flags.multiline && is_some_such is_break_unit (slice_get s.text p)
is_asserted s Boundary p = is_boundary s.text p
is_asserted s NoBoundary p = not (is_boundary s.text p)

abbrev pub behind_assertion : Subject → Assertion → ℕ → Option ℕ
behind_assertion s a p = place_if (is_asserted s a p) p

-- ---- backward references (15.10.2.9)

abbrev pub begins : Bool → List ℕ → List ℕ → Bool
begins ignore [] vs = true
begins ignore (u ∷ us) [] = false
begins ignore (u ∷ us) (v ∷ vs) = same_unit ignore u v && begins ignore us vs

abbrev pub behind_text : Subject → List ℕ → ℕ → Option ℕ
behind_text s us p = place_if (begins s.flags.ignore_case us (drop p s.text)) (p + length us)

-- what a group has matched once more; an unset group matches the empty text
abbrev pub behind_reference : Subject → Option (Option Span) → ℕ → Option ℕ
behind_reference s (Some (Some g)) p = behind_text s (take (g.to - g.from) (drop g.from s.text)) p
behind_reference s (Some None) p = Some p
behind_reference s None p = Some p
