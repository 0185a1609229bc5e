use Rattle.std.proofs.Common.{◌≡◌}
use Rattle.object_heap.specs.Heap.{found_of, found_among, line_of}
use Rattle.object_heap.proofs.LineLemmas.{numbers_left}
use Rattle.object_heap.proofs.heap.Heap.get.Given as goal

abbrev pub invariant-loop-next : goal.invariant-loop-next
invariant-loop-next l = found_of l.self l.fn.object l.name ≡ found_among l.self (line_of l.self l.next) l.name

-- the numbers fall
abbrev pub decreases-loop-next : goal.decreases-loop-next
decreases-loop-next l = numbers_left l.next
