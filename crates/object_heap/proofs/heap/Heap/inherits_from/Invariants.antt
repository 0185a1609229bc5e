use Rattle.std.proofs.Common.{◌≡◌, ◌<◌, ◌==◌, length}
use Rattle.std.specs.Prelude.{IfSome}
use Rattle.std.specs.List.{list_any}
use Rattle.object_heap.specs.Heap.{inherits_from, line_of}
use Rattle.object_heap.proofs.LineLemmas.{numbers_left}
use Rattle.object_heap.proofs.heap.Heap.inherits_from.Given as goal

abbrev pub invariant-loop-next : goal.invariant-loop-next
invariant-loop-next l =
    (inherits_from l.self l.fn.object l.prototype ≡ list_any (λ p. p.0 == l.prototype.0) (line_of l.self l.next))
    × IfSome l.next (λ p. p.0 < length l.self.objects)

-- the numbers fall
abbrev pub decreases-loop-next : goal.decreases-loop-next
decreases-loop-next l = numbers_left l.next
