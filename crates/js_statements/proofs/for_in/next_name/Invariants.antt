use Rattle.std.proofs.Common.{◌≡◌, length}
use Rattle.js_evaluation.specs.State.{AfterValue}
use Rattle.js_frames.specs.Rests.{giving}
use Rattle.js_frames.specs.RestOf.{names_from}
use Rattle.js_machine.specs.Moves.{at, left}
use Rattle.js_statements.proofs.for_in.next_name.Given as goal

abbrev pub invariant-loop-name : goal.invariant-loop-name
invariant-loop-name l = record {
  same : (last : AfterValue)
      → left last l.machine (giving (at l.machine names_from l.looped l.object l.initial.names)) ≡ left last l.machine (giving (at l.machine names_from l.looped l.object l.names));
  unmoved : l.machine ≡ l.fn.machine;
  held : l.object ≡ l.fn.object;
}

abbrev pub decreases-loop-name : goal.decreases-loop-name
decreases-loop-name l = length l.names
