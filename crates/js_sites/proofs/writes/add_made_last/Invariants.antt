use Rattle.std.proofs.Common.{◌≡◌, length}
use Rattle.js_tree.specs.View.{suffix_of, suffixes_of}
use Rattle.js_sites.specs.Sites.{made_last}
use Rattle.js_sites.proofs.writes.add_made_last.Given as goal

abbrev pub invariant-loop-left : goal.invariant-loop-left
invariant-loop-left l = made_last (suffix_of l.last.place l.last.node) (suffixes_of l.left) ≡ made_last (suffix_of l.first.place l.first.node) (suffixes_of l.behind)

abbrev pub decreases-loop-left : goal.decreases-loop-left
decreases-loop-left l = length l.left
