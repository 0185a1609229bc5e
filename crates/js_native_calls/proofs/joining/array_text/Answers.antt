use Rattle.std.proofs.Common.{refl}
use Rattle.js_evaluation.specs.NativeWork.{elements_walk}
use Rattle.js_machine.specs.Moves.{at}
use Rattle.js_native_calls.specs.Calls as spec
use Rattle.js_native_calls.proofs.Walks.{walk_charged, walk_read}
use Rattle.js_native_calls.proofs.joining.array_text.Goals as goal

pub returns : goal.returns
returns c =
    walk_read (λ h. elements_walk h c.args.handed.now) c.args.place (at c.args.machine.now spec.joined_value c.args.this.now c.args.separator c.args.place) c.args.machine.now _ _
    (walk_charged _ c.args.place (at c.args.machine.now spec.joined_value c.args.this.now c.args.separator c.args.place) c.args.machine.now _ refl c.charge_elements.new.fuel _ _
    c.in_ok-charge_elements.ensures c.joined_value.ensures)
