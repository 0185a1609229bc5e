use Rattle.std.proofs.Common.{◌≡◌, take}
use Rattle.std.specs.Prelude.{flat_map}
use Rattle.report_text.specs.Draft.{piece_bytes}
use Rattle.report_text.proofs.draft.Draft.written.Given as goal

abbrev pub invariant-loop-piece : goal.invariant-loop-piece
invariant-loop-piece l = l.out.items ≡ flat_map piece_bytes (take l.piece-index l.piece-items)
