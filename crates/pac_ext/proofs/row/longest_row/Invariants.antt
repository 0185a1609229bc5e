use Rattle.std.proofs.Common.{◌≡◌, ◌+◌, ◌≤◌, length, drop}
use Rattle.pac_ext.specs.Rows.{zero_row, longest_row}
use Rattle.pac_ext.proofs.row.longest_row.Given as goal

-- the row from this place on, and the longest one from here on
abbrev pub invariant-loop-place : goal.invariant-loop-place
invariant-loop-place l =
    (l.length ≡ zero_row (drop l.place l.groups))
    × (l.longest.start ≡ l.place + (longest_row (drop l.place l.groups)).start)
    × (l.longest.length ≡ (longest_row (drop l.place l.groups)).length)
    × (l.place + l.length ≤ length l.groups) × (l.longest.start + l.longest.length ≤ length l.groups)
