use Rattle.std.proofs.Common.{length}
use Rattle.js_tree.specs.View.{suffixes_of}
use Rattle.js_frames.specs.RestOf.{suffixes_by}
use Rattle.js_machine.specs.Moves.{at}
use Rattle.js_native_calls.proofs.Steps.{CarriesEither}
use Rattle.js_expressions.proofs.suffixes.suffixes_from.Given as goal

abbrev pub invariant-loop-left : goal.invariant-loop-left
invariant-loop-left l = CarriesEither (at l.fn.machine suffixes_by l.aim l.fn.this l.fn.value (suffixes_of l.suffixes)) l.fn.machine
    (at l.machine suffixes_by l.aim l.this l.value (suffixes_of l.left)) l.machine

abbrev pub decreases-loop-left : goal.decreases-loop-left
decreases-loop-left l = length l.left
