-- An output of the code, as contracts see it.
use Rattle.std.specs.Prelude.{Option, Some, None, Result, Ok, Err}
use Rattle.pac_plan.specs.Plan as plan
use Rattle.pac_plan.specs.declared.output.Output.{Output}

abbrev pub output_view : Output → plan.Output
output_view o = record { status = o.status; text = o.text.items }

-- the output, or none where memory ran out
abbrev pub made : {E : Type 0} → Result Output E → Option plan.Output
made (Ok o) = Some (output_view o)
made (Err e) = None
