use Rattle.std.proofs.Common.{◌≡◌, length, take}
use Rattle.std.specs.Prelude.{flat_map, min}
use Rattle.report_text.specs.Draft.{largest_size, piece_bytes}
use Rattle.report_text.proofs.draft.Draft.size.Given as goal

abbrev pub invariant-loop-piece : goal.invariant-loop-piece
invariant-loop-piece l = l.size ≡ min (length (flat_map piece_bytes (take l.piece-index l.piece-items))) largest_size
