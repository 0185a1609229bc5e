-- Each tree that lies in a tree is smaller than it.
use Rattle.std.specs.Prelude.{◌+◌, ◌≤◌, max, List, [], ◌∷◌}
use Rattle.std.proofs.Common.{arith}
use denote.Param.Weighed.{most}
use Rattle.js_pattern.specs.declared.node.Node.TheInside as of_node
use Rattle.js_pattern.specs.declared.node.NodeKind.{NodeKind}
use Rattle.js_pattern.specs.declared.node.NodeKind.TheVariants as kind
use Rattle.js_pattern.specs.declared.node.Node.TheDeep.{deep-Node, deep-NodeKind}
use Rattle.js_pattern.specs.Tree.{Tree, trees_of}
use Rattle.js_pattern.specs.Size.{tree_size, trees_size}
use Rattle.js_pattern.specs.View.{tree_of, node_view}

most_trees : (xs : List Tree) → most (λ x. tree_size x + 1) xs ≤ trees_size (trees_of xs)
most_trees [] = omega arith
most_trees (x ∷ xs) = omega (arith, most_trees xs)

kind_smaller : (n : NodeKind) → max (deep-NodeKind n) 0 ≤ tree_size (tree_of n)
kind_smaller (kind.Row xs) = omega (arith, most_trees xs)
kind_smaller (kind.Alternatives xs) = omega (arith, most_trees xs)
kind_smaller _ = omega arith

pub node_smaller : (n : of_node.Inside) → Unit {0} → deep-Node n ≤ tree_size (node_view n)
node_smaller n h = kind_smaller n.kind
