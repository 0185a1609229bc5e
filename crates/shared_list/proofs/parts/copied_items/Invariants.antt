use Rattle.std.proofs.Common.{◌≡◌, ◌++◌, drop}
use Rattle.shared_list.proofs.parts.copied_items.Given as goal

abbrev pub invariant-loop-item : goal.invariant-loop-item
invariant-loop-item g l = l.copies.items ++ drop l.item-index l.items ≡ l.items
