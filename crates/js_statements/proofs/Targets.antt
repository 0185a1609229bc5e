-- Loops that wait for no target.
use Rattle.std.proofs.Common.{◌≡◌, ℕ, List, Ok, Result, refl}
use Rattle.heap_values.specs.declared.value.Value.{Value}
use Rattle.heap_values.specs.declared.value.Value.TheVariants as value
use Rattle.js_evaluation.specs.Parts.{Reference}
use Rattle.js_frames.specs.declared.frame.Frame.TheVariants as frame
use Rattle.js_frames.specs.declared.statement_frame.ForInLoop.{ForInLoop}
use Rattle.js_frames.specs.declared.statement_frame.LoopFrame.{LoopFrame}
use Rattle.js_frames.specs.declared.statement_frame.LoopFrame.TheVariants as of_loop
use Rattle.js_frames.specs.RestOf.{rest_of_target}
use Rattle.heap_steps.specs.declared.halt.Halt.{Halt}
use Rattle.js_machine.specs.declared.machine.Machine.{Machine}
use Rattle.js_machine.specs.declared.now.Now.{Now}
use Rattle.js_machine.specs.Moves.{Leads, Moves, at, resumed}

-- where a loop waits for a value, a reference is none
pub not_waiting : (m : Machine) (f : LoopFrame) (x : Reference) (r : Result Now Halt) (m' : Machine)
    → ((name : List ℕ) (object : Value) (names : List (List ℕ)) (l : ForInLoop) → f ≡ of_loop.ForInTarget name object names l → ⊥)
    → Leads (at m resumed (frame.Loop f) (Ok value.Undefined)) m r m' → Moves (at m rest_of_target f x) m r m'
not_waiting m (of_loop.ForInTarget name object names l) x r m' n k = absurd (n name object names l refl)
not_waiting m f x r m' n k = k
