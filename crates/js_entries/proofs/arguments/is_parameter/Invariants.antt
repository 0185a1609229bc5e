use Rattle.std.proofs.Common.{◌≡◌, length, map}
use Rattle.js_binding.specs.Names.{arguments_name}
use Rattle.js_evaluation.specs.Entries.{has_name}
use Rattle.js_entries.proofs.arguments.is_parameter.Given as goal

abbrev pub invariant-loop-left : goal.invariant-loop-left
invariant-loop-left l = has_name arguments_name (map (λ x. x.name) l.left) ≡ has_name arguments_name (map (λ x. x.name) l.parameters)

abbrev pub decreases-loop-left : goal.decreases-loop-left
decreases-loop-left l = length l.left
