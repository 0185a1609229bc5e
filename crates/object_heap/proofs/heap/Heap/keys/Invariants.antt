use Rattle.std.proofs.Common.{◌≡◌}
use Rattle.object_heap.specs.Heap.{keys_of, keys_among, line_of}
use Rattle.object_heap.proofs.LineLemmas.{numbers_left}
use Rattle.object_heap.proofs.heap.Heap.keys.Given as goal

abbrev pub invariant-loop-next : goal.invariant-loop-next
invariant-loop-next l = keys_of l.self l.fn.object ≡ keys_among l.self (line_of l.self l.next) l.names

-- the numbers fall
abbrev pub decreases-loop-next : goal.decreases-loop-next
decreases-loop-next l = numbers_left l.next
