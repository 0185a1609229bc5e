-- How many parts may still be opened.
use Rattle.std.proofs.Common.{◌≡◌, ◌-◌, List, [], ◌∷◌, length, refl, arith}
use Rattle.js_frames.specs.declared.frame.Open.{Open}
use Rattle.js_frames.specs.RestOf.{room}
use Rattle.js_evaluation.specs.declared.limits.TheConstants.{MOST_OPEN}

pub room-is : (fs : List Open) → room fs ≡ MOST_OPEN - length fs
room-is [] = refl
room-is (f ∷ fs) = omega (arith, room-is fs)
