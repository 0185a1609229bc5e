use Rattle.std.proofs.Common.{◌≡◌, ◌+◌, ◌*◌, ◌≤◌, ◌++◌, length, take}
use Rattle.pac_ext.specs.Writing.{behind_colons}
use Rattle.pac_ext.proofs.write.push_behind.Given as goal

-- the groups so far are written, each with at most five units
abbrev pub invariant-loop-group : goal.invariant-loop-group
invariant-loop-group l =
    (l.text.items ≡ l.fn.text.items ++ behind_colons (take l.group-index l.groups))
    × (length l.text.items ≤ length l.fn.text.items + 5 * l.group-index)
