use Rattle.library_calls.proofs.inputs.script_in.Goals as goal

pub returns-in-Ok-clause-read : goal.returns-in-Ok-clause-read
returns-in-Ok-clause-read c = (_, c.in-Ok.ensures)
