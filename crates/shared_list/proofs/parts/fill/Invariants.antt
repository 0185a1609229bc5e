use Rattle.std.proofs.Common.{◌≡◌, ◌≤◌, List, length}
use Rattle.shared_list.specs.Slots.{merged}
use Rattle.shared_list.proofs.parts.fill.Given as goal

abbrev pub invariant-loop-place : goal.invariant-loop-place
invariant-loop-place g l = (l._place ≤ length l.written.items) × ((xs : List g.row.T.Denot) → merged xs l.written.items ≡ merged xs l.fn.written.items)
