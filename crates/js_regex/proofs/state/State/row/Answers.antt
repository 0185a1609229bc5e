use Rattle.js_pattern.specs.Tree.{trees_of}
use Rattle.js_pattern.specs.Walk.{row_walk}
use Rattle.js_regex.proofs.Steps.{saved}
use Rattle.js_regex.proofs.state.State.row.Goals as goal

pub returns : goal.returns
returns c = λ s.
    rw c.as_slice.ensures (saved s (trees_of c.args.others.now) (row_walk s (trees_of c.args.terms.now)) _ _ c.in_ok-save.ensures)
