-- The tree that a node of the code is, without where it lies in memory.
use Rattle.js_pattern.specs.declared.node.Node.TheInside as of_node
use Rattle.js_pattern.specs.declared.node.NodeKind.{NodeKind}
use Rattle.js_pattern.specs.declared.node.NodeKind.TheVariants as kind
use Rattle.js_pattern.specs.Tree.{Tree, unit, any, class, assertion, reference, row, alternatives, group, repeat, trees_of}

abbrev pub tree_of : NodeKind → Tree
tree_of (kind.Unit u) = unit u
tree_of kind.Any = any
tree_of (kind.Class c) = class c
tree_of (kind.Assertion e) = assertion e
tree_of (kind.Reference n) = reference n
tree_of (kind.Row xs) = row (trees_of xs)
tree_of (kind.Alternatives xs) = alternatives (trees_of xs)
tree_of (kind.Group n x) = group n x.value
tree_of (kind.Repeat x b) = repeat x.value b

abbrev pub node_view : of_node.Inside → Tree
node_view n = tree_of n.kind
