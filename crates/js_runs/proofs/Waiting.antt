-- Open parts that wait for a value.
use Rattle.std.proofs.Common.{◌≡◌, Ok, Result, refl}
use Rattle.heap_values.specs.declared.value.Value.TheVariants as value
use Rattle.js_evaluation.specs.Parts.{Reference}
use Rattle.js_frames.specs.declared.frame.Frame.{Frame}
use Rattle.js_frames.specs.declared.frame.Frame.TheVariants as frame
use Rattle.js_frames.specs.declared.statement_frame.LoopFrame.{LoopFrame}
use Rattle.js_frames.specs.declared.target_frame.TargetFrame.{TargetFrame}
use Rattle.heap_steps.specs.declared.halt.Halt.{Halt}
use Rattle.js_machine.specs.declared.machine.Machine.{Machine}
use Rattle.js_machine.specs.declared.now.Now.{Now}
use Rattle.js_machine.specs.Moves.{Leads, at, reached, resumed}

-- a reference is none to them
pub waits_for_a_value : (m : Machine) (f : Frame) (x : Reference) (r : Result Now Halt) (m' : Machine)
    → (f ≡ frame.Hold → ⊥) → ((t : TargetFrame) → f ≡ frame.Target t → ⊥) → ((l : LoopFrame) → f ≡ frame.Loop l → ⊥)
    → Leads (at m resumed f (Ok value.Undefined)) m r m' → Leads (at m reached f x) m r m'
waits_for_a_value m frame.Hold x r m' n o p k = absurd (n refl)
waits_for_a_value m (frame.Target t) x r m' n o p k = absurd (o t refl)
waits_for_a_value m (frame.Loop l) x r m' n o p k = absurd (p l refl)
waits_for_a_value m f x r m' n o p k = k
