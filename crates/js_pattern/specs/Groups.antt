-- The groups that a pattern keeps, numbered from 0 in the order of their opening brackets (ECMA-262 5.1, 15.10.2.8).
use Rattle.std.specs.Prelude.{◌≡◌, ℕ, ◌+◌, Some, None}
use Rattle.js_pattern.specs.Tree.{Tree, row, alternatives, group, repeat, Trees, no_tree, a_tree}

-- how many groups of a tree are kept
abbrev mutual
  pub groups_of : Tree → ℕ
  groups_of (row xs) = groups_of_all xs
  groups_of (alternatives xs) = groups_of_all xs
  groups_of (group None x) = groups_of x
  groups_of (group (Some n) x) = groups_of x + 1
  groups_of (repeat x b) = groups_of x
  groups_of _ = 0

  pub groups_of_all : Trees → ℕ
  groups_of_all no_tree = 0
  groups_of_all (a_tree x xs) = groups_of x + groups_of_all xs

-- the groups are numbered from n on, and each Repeat names those of its body
abbrev mutual
  pub IsNumbered : ℕ → Tree → Type 0
  IsNumbered n (row xs) = AreNumbered n xs
  IsNumbered n (alternatives xs) = AreNumbered n xs
  IsNumbered n (group None x) = IsNumbered n x
  IsNumbered n (group (Some k) x) = (k ≡ n) × IsNumbered (n + 1) x
  IsNumbered n (repeat x b) = (b.from_group ≡ n) × (b.to_group ≡ n + groups_of x) × IsNumbered n x
  IsNumbered n _ = Unit {0}

  pub AreNumbered : ℕ → Trees → Type 0
  AreNumbered n no_tree = Unit {0}
  AreNumbered n (a_tree x xs) = IsNumbered n x × AreNumbered (n + groups_of x) xs
