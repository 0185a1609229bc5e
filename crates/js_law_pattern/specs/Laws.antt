-- The groups of a pattern, and the references to them (ECMA-262 5.1, sections 15.10.2.1, 15.10.2.8 and 15.10.2.9).
use Rattle.std.specs.Prelude.{◌≡◌, ℕ, ◌<◌, List, Ok}
use Rattle.js_pattern.specs.Tree.{Tree, reference, row, alternatives, group, repeat, Trees, no_tree, a_tree}
use Rattle.js_pattern_reader.specs.Groups.{groups_in}
use Rattle.js_pattern_reader.specs.Reading.{body_of}

-- the groups that are counted beforehand are those that are read
abbrev pub GroupsAreCounted : Type 0
GroupsAreCounted = (us : List ℕ) (x : Tree) (groups : ℕ) → body_of us ≡ Ok (x, groups) → groups ≡ groups_in us

-- each reference names one of so many groups
abbrev mutual
  pub RefersWithin : ℕ → Tree → Type 0
  RefersWithin count (reference n) = n < count
  RefersWithin count (row xs) = ReferWithin count xs
  RefersWithin count (alternatives xs) = ReferWithin count xs
  RefersWithin count (group n x) = RefersWithin count x
  RefersWithin count (repeat x b) = RefersWithin count x
  RefersWithin count _ = Unit {0}

  pub ReferWithin : ℕ → Trees → Type 0
  ReferWithin count no_tree = Unit {0}
  ReferWithin count (a_tree x xs) = RefersWithin count x × ReferWithin count xs

-- each reference of a body that is read names a group that it keeps
abbrev pub ReferencesNameGroups : Type 0
ReferencesNameGroups = (us : List ℕ) (x : Tree) (groups : ℕ) → body_of us ≡ Ok (x, groups) → RefersWithin groups x
