-- How a run ends, by what its machine comes to.
use Rattle.std.specs.Prelude.{◌≡◌, ℕ, Option, Some, None, Result, Ok, Err, IfOk}
use Rattle.utf16_text.specs.declared.memory.Memory.{Memory}
use Rattle.heap_values.specs.declared.value.Value.{Value}
use Rattle.heap_values.specs.Views.{HeapView}
use Rattle.run_trees.specs.declared.abrupt.Abrupt.TheVariants as ending
use Rattle.js_evaluation.specs.State.{RunState, RunEnd, Comes, Faults, Stop}
use Rattle.js_evaluation.specs.Evaluation as def
use Rattle.js_evaluation.specs.Evaluation.{Gives, Fails, ending_of}
use Rattle.heap_steps.specs.declared.halt.Halt.{Halt}
use Rattle.heap_steps.specs.declared.halt.Halt.TheVariants as halt
use Rattle.heap_steps.specs.Works.{Beside, state_with, plain_fault, left_out}
use Rattle.js_runs.specs.declared.running.Cut.{Cut}
use Rattle.js_runs.specs.declared.running.Cut.TheVariants as cut
use Rattle.js_interp.specs.declared.one_run.Unfinished.{Unfinished}
use Rattle.js_interp.specs.declared.one_run.Unfinished.TheVariants as unfinished
use Rattle.js_interp.specs.declared.outcome.Ending.{Ending}
use Rattle.js_interp.specs.declared.outcome.Ending.TheVariants as answer

-- an ending, as the definition of a run has it
abbrev pub seen_ending : Ending → def.Ending
seen_ending (answer.Result text) = Gives text
seen_ending (answer.Fault fault) = Fails fault

-- the end of a run with its state; none where memory was refused
abbrev pub end_of : Result (Result Value Stop) Halt → RunState → Option RunEnd
end_of (Ok end) s = Some (Comes end s)
end_of (Err (halt.Throw thrown)) s = Some (Comes (Err (ending.Thrown thrown)) s)
end_of (Err (halt.Fault code place)) s = Some (Faults (plain_fault code place))
end_of (Err (halt.LeftOut name place)) s = Some (Faults (left_out name place))
end_of (Err halt.Memory) s = None

abbrev pub ending_by : Option RunEnd → Option def.Ending
ending_by None = None
ending_by (Some end) = Some (ending_of end)

-- the ending is that of what the machine came to; there is none where memory was refused
abbrev pub EndsBy : HeapView → Result (Result Value Stop) Halt → Result Ending Memory → Type 0
EndsBy heap end result = IfOk result (λ e. (fuel : ℕ) (beside : Beside) → ending_by (end_of end (state_with heap fuel beside)) ≡ Some (seen_ending e))

-- the same where the run may stop at a name
abbrev pub EndsWith : HeapView → Result (Result Value Stop) Cut → Result Ending Unfinished → Type 0
EndsWith heap (Err (cut.Missing name)) r = r ≡ Err (unfinished.Missing name)
EndsWith heap (Ok end) (Ok e) = EndsBy heap (Ok end) (Ok e)
EndsWith heap (Err (cut.Halt h)) (Ok e) = EndsBy heap (Err h) (Ok e)
EndsWith heap end (Err why) = why ≡ unfinished.Memory
