use Rattle.std.proofs.Common.{◌≡◌}
use Rattle.session_core.proofs.waiting.list_places.Given as goal

abbrev pub invariant-loop-place : goal.invariant-loop-place
invariant-loop-place l = l.list.items ≡ l.yielded
