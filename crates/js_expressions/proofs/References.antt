-- What an expression refers to is given back.
use Rattle.std.proofs.Common.{◌≡◌, Ok, sym, ap, arith}
use Rattle.run_trees.specs.Runs.{pure}
use Rattle.js_evaluation.specs.Parts as rule
use Rattle.js_frames.specs.declared.reference.Reference.{Reference}
use Rattle.js_frames.specs.Parts.{reference_of}
use Rattle.js_frames.specs.RestOf.{rest_of}
use Rattle.js_machine.specs.declared.machine.Machine.{Machine}
use Rattle.js_machine.specs.declared.now.Now.TheVariants as now
use Rattle.js_machine.specs.Moves.{Refers, functions_of, run_state}

pub gives_reference : (m : Machine) (r : Reference) (x : rule.Reference) → reference_of r ≡ x → Refers (pure x) m (Ok (now.Refers r)) m
gives_reference m r x e = record { goes = λ last. ap (λ y. (rest_of (functions_of m) last m.frames).referred y (run_state m.state)) (sym e); light = omega arith }
