use Rattle.js_primary.proofs.calls.first_arguments.Goals as goal

pub returns : goal.returns
returns c = rw (c.as_slice.ensures, c.new-done.ensures) at c.arguments_from.ensures
