use Rattle.js_primary.proofs.creation.called_new.Goals as goal

pub returns : goal.returns
returns c = rw c.new-done.ensures at c.new_arguments.ensures
