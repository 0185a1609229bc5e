use Rattle.std.proofs.Common.{◌≡◌, length}
use Rattle.js_frames.specs.Unwinding.{unwound}
use Rattle.js_frames.proofs.frames.Frames.unwind.Given as goal

abbrev pub invariant-loop-part : goal.invariant-loop-part
invariant-loop-part l = unwound l.fn.end l.fn.self ≡ unwound l.fn.end l.self

abbrev pub decreases-loop-part : goal.decreases-loop-part
decreases-loop-part l = length l.self
