-- Worked matches and costs, computed from the definitions. The matches of alternatives and Repeats are those of
-- ECMA-262 5.1, sections 15.10.2.3 and 15.10.2.5; a cost counts each node and mark that is taken up.
use Rattle.std.specs.Prelude.{◌≡◌, ℕ, codes, List, [], ◌∷◌, Bool, true, false, Option, Some, None, refl}
use Rattle.js_pattern.specs.declared.span.Span.{Span}
use Rattle.js_pattern.specs.declared.class.Set.TheVariants.{Space}
use Rattle.js_pattern.specs.declared.class.ClassItem.TheVariants as item
use Rattle.js_pattern.specs.declared.node.Assertion.TheVariants.{Start, Boundary}
use Rattle.js_pattern.specs.Tree.{Tree, unit, class, assertion, reference, row, alternatives, group, repeat, trees_of}
use Rattle.js_pattern.specs.Leaves.{in_set}
use Rattle.js_pattern.specs.Pattern.{PatternTree}
use Rattle.js_pattern.specs.Search.{Found, match_from, cost_from}

-- ---- how patterns and matches are written here

abbrev terms : List Tree → Tree
terms xs = row (trees_of xs)

abbrev units : List ℕ → Tree
units us = terms (each us)
  where
    each : List ℕ → List Tree
    each [] = []
    each (u ∷ us) = unit u ∷ each us

abbrev either : List Tree → Tree
either xs = alternatives (trees_of xs)

abbrev kept : ℕ → Tree → Tree
kept n x = group (Some n) x

-- so many times at least and at most, with the groups in it from one up to another
abbrev times : ℕ → Option ℕ → Bool → ℕ → ℕ → Tree → Tree
times least most greedy first behind x = repeat x (record { from_group = first; to_group = behind; least = least; most = most; greedy = greedy })

abbrev star : ℕ → ℕ → Tree → Tree
star = times 0 None true

abbrev plus : ℕ → ℕ → Tree → Tree
plus = times 1 None true

abbrev maybe : ℕ → ℕ → Tree → Tree
maybe = times 0 (Some 1) true

abbrev flagged : Bool → Bool → Tree → ℕ → PatternTree
flagged ignore_case multiline x count =
    record { tree = x; groups = count; flags = record { global = false; ignore_case = ignore_case; multiline = multiline } }

abbrev pattern : Tree → ℕ → PatternTree
pattern = flagged false false

abbrev span : ℕ → ℕ → Option Span
span a b = Some (record { from = a; to = b })

abbrev found : ℕ → ℕ → List (Option Span) → Option Found
found from to groups = Some (record { from = from; end = record { place = to; groups = groups } })

abbrev found_to : ℕ → List (Option Span) → Option Found
found_to to groups = found 0 to groups

abbrev a : Tree
a = unit 97

-- ---- costs

-- /a/ on "a": the row and the unit
pub unit_cost : cost_from (pattern (terms (a ∷ [])) 0) (codes "a") 0 ≡ 2
unit_cost = refl

-- /(a)/ on "a": two rows, the group, the unit and the closing mark
pub group_cost : cost_from (pattern (terms (kept 0 (terms (a ∷ [])) ∷ [])) 1) (codes "a") 0 ≡ 5
group_cost = refl

-- /(?:a)/ on "a" costs the same
pub no_capture_cost : cost_from (pattern (terms (group None (terms (a ∷ [])) ∷ [])) 0) (codes "a") 0 ≡ 5
no_capture_cost = refl

-- /a*/ on "aa": the row, three Repeats, three units of which the last fails, and a mark behind each turn
pub star_cost : cost_from (pattern (terms (star 0 0 a ∷ [])) 0) (codes "aa") 0 ≡ 9
star_cost = refl

-- /a/ on "b" is tried at two places, the end among them
pub nowhere_cost : cost_from (pattern (terms (a ∷ [])) 0) (codes "b") 0 ≡ 4
nowhere_cost = refl

-- ---- alternatives (15.10.2.3)

-- /a|ab/ on "abc" is "a" and not "ab"
pub first_alternative : match_from (pattern (either (units (codes "a") ∷ units (codes "ab") ∷ [])) 0) (codes "abc") 0 ≡ found_to 1 []
first_alternative = refl

-- /((a)|(ab))((c)|(bc))/ on "abc" is "abc", "a", "a", undefined, "bc", undefined, "bc"
abbrev two_choices : Tree
two_choices = terms
    (kept 0 (either (terms (kept 1 (units (codes "a")) ∷ []) ∷ terms (kept 2 (units (codes "ab")) ∷ []) ∷ []))
    ∷ kept 3 (either (terms (kept 4 (units (codes "c")) ∷ []) ∷ terms (kept 5 (units (codes "bc")) ∷ []) ∷ []))
    ∷ [])

pub choices_with_groups : match_from (pattern two_choices 6) (codes "abc") 0
    ≡ found_to 3 (span 0 1 ∷ span 0 1 ∷ None ∷ span 1 3 ∷ None ∷ span 1 3 ∷ [])
choices_with_groups = refl

-- ---- Repeats (15.10.2.5)

abbrev letters : Tree
letters = class (record { excludes = false; items = item.Range 97 122 ∷ [] })

-- /a[a-z]{2,4}/ on "abcdefghi" is "abcde"
pub as_many_as_can_be : match_from (pattern (terms (a ∷ times 2 (Some 4) true 0 0 letters ∷ [])) 0) (codes "abcdefghi") 0 ≡ found_to 5 []
as_many_as_can_be = refl

-- /a[a-z]{2,4}?/ on "abcdefghi" is "abc"
pub as_few_as_can_be : match_from (pattern (terms (a ∷ times 2 (Some 4) false 0 0 letters ∷ [])) 0) (codes "abcdefghi") 0 ≡ found_to 3 []
as_few_as_can_be = refl

-- /(aa|aabaac|ba|b|c)*/ on "aabaac" is "aaba", "ba"
abbrev five_choices : Tree
five_choices = either (units (codes "aa") ∷ units (codes "aabaac") ∷ units (codes "ba") ∷ units (codes "b") ∷ units (codes "c") ∷ [])

pub not_the_longest : match_from (pattern (terms (star 0 1 (kept 0 five_choices) ∷ [])) 1) (codes "aabaac") 0
    ≡ found_to 4 (span 2 4 ∷ [])
not_the_longest = refl

-- /(z)((a+)?(b+)?(c))*/ on "zaacbbbcac" is "zaacbbbcac", "z", "ac", "a", undefined, "c"
abbrev turn_of_four : Tree
turn_of_four = kept 1 (terms
    (maybe 2 3 (kept 2 (terms (plus 2 2 a ∷ [])))
    ∷ maybe 3 4 (kept 3 (terms (plus 3 3 (unit 98) ∷ [])))
    ∷ kept 4 (units (codes "c"))
    ∷ []))

pub groups_are_unset_by_turns : match_from
    (pattern (terms (kept 0 (units (codes "z")) ∷ star 1 5 turn_of_four ∷ [])) 5)
    (codes "zaacbbbcac") 0
    ≡ found_to 10 (span 0 1 ∷ span 8 10 ∷ span 8 9 ∷ None ∷ span 9 10 ∷ [])
groups_are_unset_by_turns = refl

-- /(a*)*/ on "b" is "", undefined: a turn that takes no unit doesn't count
pub empty_turn : match_from (pattern (terms (star 0 1 (kept 0 (terms (star 0 0 a ∷ []))) ∷ [])) 1) (codes "b") 0 ≡ found_to 0 (None ∷ [])
empty_turn = refl

-- /(a*)b\1+/ on "baaaac" is "b", "": a turn that must be taken counts, though it takes no unit
pub empty_turn_that_must_be : match_from
    (pattern (terms (kept 0 (terms (star 0 0 a ∷ [])) ∷ unit 98 ∷ plus 1 1 (reference 0) ∷ [])) 1)
    (codes "baaaac") 0
    ≡ found_to 1 (span 0 0 ∷ [])
empty_turn_that_must_be = refl

-- ---- letters, lines, words and spaces (15.10.2.6, 15.10.2.8, 15.10.2.12)

-- /b/i on "aB" is "B"
pub either_case : match_from (flagged true false (units (codes "b")) 0) (codes "aB") 0 ≡ found 1 2 []
either_case = refl

-- /^b/ on two lines "a" and "b" is nowhere, and /^b/m the second
abbrev b_at_start : Tree
b_at_start = terms (assertion Start ∷ unit 98 ∷ [])

abbrev two_lines : List ℕ
two_lines = 97 ∷ 10 ∷ 98 ∷ []

pub start_of_text : match_from (flagged false false b_at_start 0) two_lines 0 ≡ None
start_of_text = refl

pub start_of_line : match_from (flagged false true b_at_start 0) two_lines 0 ≡ found 2 3 []
start_of_line = refl

-- /\bb/ on "ab b" is the second "b"
pub start_of_word : match_from (pattern (terms (assertion Boundary ∷ unit 98 ∷ [])) 0) (codes "ab b") 0 ≡ found 3 4 []
start_of_word = refl

-- \s has the byte order mark, which is white space of the language
pub byte_order_mark : in_set Space 0xFEFF ≡ true
byte_order_mark = refl
