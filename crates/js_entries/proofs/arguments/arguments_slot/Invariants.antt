use Rattle.std.proofs.Common.{◌≡◌, length}
use Rattle.js_binding.specs.Names.{arguments_name}
use Rattle.js_binding.specs.Scopes.{place_of}
use Rattle.js_entries.specs.Names.{place_from}
use Rattle.js_entries.proofs.arguments.arguments_slot.Given as goal

abbrev pub invariant-loop-left : goal.invariant-loop-left
invariant-loop-left l = place_from l.passed (place_of arguments_name l.left) ≡ place_of arguments_name l.names

abbrev pub decreases-loop-left : goal.decreases-loop-left
decreases-loop-left l = length l.left
