-- Texts that are written at once from their pieces.
use Rattle.std.specs.Prelude.{ℕ, List, false}
use Rattle.utf16_text.specs.Escape.{escaped}
use Rattle.report_text.specs.declared.draft.Piece.{Piece}
use Rattle.report_text.specs.declared.draft.Piece.TheVariants as piece

-- the bytes of a piece
abbrev pub piece_bytes : Piece → List ℕ
piece_bytes (piece.Bytes bytes) = bytes.now
piece_bytes (piece.Escaped text) = escaped false text.now
piece_bytes (piece.Made bytes) = bytes.items

-- the largest size that is counted
abbrev pub largest_size : ℕ
largest_size = 18446744073709551615
