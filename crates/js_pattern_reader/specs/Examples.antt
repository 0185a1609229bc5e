-- Worked readings, each by computation alone: what bodies are read as, and where they are refused.
use Rattle.std.specs.Prelude.{◌≡◌, ℕ, zero, suc, List, [], ◌∷◌, ◌++◌, codes, true, false, Some, None, Ok, refl}
use Rattle.js_pattern.specs.declared.class.Set.TheVariants.{Digit}
use Rattle.js_pattern.specs.declared.class.ClassItem.TheVariants as item
use Rattle.js_pattern.specs.declared.node.Assertion.TheVariants.{Start, End}
use Rattle.js_pattern.specs.Tree.{Tree, unit, class, assertion, reference, row, alternatives, group, repeat, trees_of}
use Rattle.js_pattern_reader.specs.Answers.{bad, unsupported}
use Rattle.js_pattern_reader.specs.Reading.{inside_of, body_of, pattern_of}

abbrev terms : List Tree → Tree
terms xs = row (trees_of xs)

-- ---- trees

-- without a bar it is a row, also of one term or none
pub nothing : body_of [] ≡ Ok (terms [], 0)
nothing = refl

pub one_unit : body_of (codes "a") ≡ Ok (terms (unit 97 ∷ []), 0)
one_unit = refl

-- bars part rows, and a group has rows of its own
pub rows : body_of (codes "^a|(b)$")
    ≡ Ok (
      alternatives (trees_of (
          terms (assertion Start ∷ unit 97 ∷ [])
          ∷ terms (group (Some 0) (terms (unit 98 ∷ [])) ∷ assertion End ∷ [])
          ∷ [])),
      1,
    )
unfolding inside_of
rows = refl

-- a Repeat holds its part, and names the groups within it
pub repeated_group : body_of (codes "(?:(a)){2,3}?")
    ≡ Ok (
      terms (repeat (group None (terms (group (Some 0) (terms (unit 97 ∷ [])) ∷ [])))
          (record { from_group = 0; to_group = 1; least = 2; most = Some 3; greedy = false }) ∷ []),
      1,
    )
unfolding inside_of
repeated_group = refl

-- a class with a range and a set
pub one_class : body_of (codes "[^a-c\\d]")
    ≡ Ok (terms (class (record { excludes = true; items = item.Range 97 99 ∷ item.Set Digit ∷ [] }) ∷ []), 0)
one_class = refl

-- a reference stands for a group further on too, and has one digit
pub reference_ahead : body_of (codes "\\10(a)") ≡ Ok (terms (reference 0 ∷ unit 48 ∷ group (Some 0) (terms (unit 97 ∷ [])) ∷ []), 1)
unfolding inside_of
reference_ahead = refl

-- ---- refusals

pub look_ahead : body_of (codes "(?=a)") ≡ unsupported
look_ahead = refl

pub brace_alone : body_of (codes "a{") ≡ bad
brace_alone = refl

pub range_backwards : body_of (codes "[b-a]") ≡ bad
range_backwards = refl

-- counts up to 1,000
pub count_of_1000 : body_of (codes "a{1000}")
    ≡ Ok (terms (repeat (unit 97) (record { from_group = 0; to_group = 0; least = 1000; most = Some 1000; greedy = true }) ∷ []), 0)
count_of_1000 = refl

pub count_of_1001 : body_of (codes "a{1001}") ≡ unsupported
count_of_1001 = refl

-- 20 groups are kept
abbrev times : ℕ → List ℕ → List ℕ → List ℕ
times zero us vs = vs
times (suc n) us vs = us ++ times n us vs

pub group_21 : body_of (times 21 (codes "()") []) ≡ unsupported
unfolding inside_of
group_21 = refl

-- 100 groups in one another: what stands in the last is read, but no group more
pub depth_100 : body_of (times 100 (codes "(?:") (codes "*")) ≡ bad
unfolding inside_of
depth_100 = refl

pub depth_101 : body_of (times 101 (codes "(?:") (codes "*")) ≡ unsupported
unfolding inside_of
depth_101 = refl

-- the body counts before the flags, and each flag stands once
pub flag_twice : pattern_of (codes "a") (codes "gig") ≡ bad
flag_twice = refl

pub body_before_flags : pattern_of (codes "\\c") (codes "x") ≡ unsupported
body_before_flags = refl
