use Rattle.js_expressions.proofs.suffixes.applied.Goals as goal

pub returns : goal.returns
returns c = rw c.global_value-this.ensures at c.suffixes_from.ensures
