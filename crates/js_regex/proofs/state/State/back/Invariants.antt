use Rattle.std.proofs.Common.{◌≡◌, length}
use Rattle.js_pattern.specs.Place.{Subject}
use Rattle.js_regex.specs.Moves.{back_of}
use Rattle.js_regex.proofs.state.State.back.Given as goal

abbrev pub invariant-loop-undo : goal.invariant-loop-undo
invariant-loop-undo l = (s : Subject) → back_of s l.self ≡ back_of s l.fn.self

abbrev pub decreases-loop-undo : goal.decreases-loop-undo
decreases-loop-undo l = length l.self.undo
