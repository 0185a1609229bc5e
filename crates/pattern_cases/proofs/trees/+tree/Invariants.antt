-- The measure of each description is the size of what it describes.
use Rattle.js_pattern.specs.Size.{tree_size, trees_size}
use Rattle.js_pattern.specs.Tree.{trees_of}
use Rattle.pattern_cases.proofs.trees.+tree.Given as goal

abbrev pub decreases-described : goal.decreases-described
decreases-described l = tree_size l.node.now

abbrev pub decreases-all_described : goal.decreases-all_described
decreases-all_described l = trees_size (trees_of l.nodes.now)
