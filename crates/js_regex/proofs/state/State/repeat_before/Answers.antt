use Rattle.js_pattern.specs.Tree.{repeat, trees_of}
use Rattle.js_pattern.specs.Walk.{offer}
use Rattle.js_regex.proofs.Steps.{saved}
use Rattle.js_regex.proofs.state.State.repeat_before.Goals as goal

pub returns : goal.returns
returns c = λ s. saved s (trees_of c.args.others.now) (offer s (repeat c.args.body.now c.args.bounds)) _ _ c.in_ok-save.ensures
