-- The size of a tree, which is above that of each of its parts.
use Rattle.std.specs.Prelude.{ℕ, ◌+◌}
use Rattle.js_pattern.specs.Tree.{Tree, unit, any, class, assertion, reference, row, alternatives, group, repeat, Trees, no_tree, a_tree}

abbrev mutual
  pub tree_size : Tree → ℕ
  tree_size (unit u) = 1
  tree_size any = 1
  tree_size (class c) = 1
  tree_size (assertion e) = 1
  tree_size (reference n) = 1
  tree_size (row xs) = trees_size xs + 1
  tree_size (alternatives xs) = trees_size xs + 1
  tree_size (group n x) = tree_size x + 1
  tree_size (repeat x b) = tree_size x + 1

  pub trees_size : Trees → ℕ
  trees_size no_tree = 1
  trees_size (a_tree x xs) = tree_size x + trees_size xs + 1
