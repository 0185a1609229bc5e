use Rattle.std.proofs.Common.{◌≡◌, length}
use Rattle.js_frames.specs.declared.wanted.Wanted.{Wanted}
use Rattle.js_frames.specs.Parts.{names_of}
use Rattle.js_machine.specs.Moves.{at}
use Rattle.js_native_calls.specs.Calls as spec
use Rattle.js_native_calls.proofs.Steps.{CarriesEither}
use Rattle.js_native_calls.proofs.converting.convert.Given as goal

abbrev pub invariant-loop-name : goal.invariant-loop-name
invariant-loop-name l =
    ((wanted : Wanted) → CarriesEither (at l.fn.machine spec.converted (names_of l.fn.methods) l.object l.place wanted) l.fn.machine
    (at l.machine spec.converted (names_of l.left) l.object l.place wanted) l.machine)
    × (l.wanted ≡ l.fn.wanted)

abbrev pub decreases-loop-name : goal.decreases-loop-name
decreases-loop-name l = length (names_of l.left)
