use Rattle.js_entries.proofs.globals.declare_variables.Goals as goal

pub returns : goal.returns
returns c = rw (c.as_slice.ensures, c.in_ok-add_variables.ensures, c.new-names.ensures) at c.declare_names.ensures
