-- Texts in pieces, one more at a time.
use Rattle.std.proofs.Common.{◌≡◌, ◌∷◌, ◌++◌, List, [], ℕ, ap, ◌∙◌, append-nil}
use Rattle.std.specs.Prelude.{flat_map}
use Rattle.std.proofs.lemmas.Grind.{flat_map-append}
use Rattle.report_text.specs.declared.draft.Piece.{Piece}
use Rattle.report_text.specs.Draft.{piece_bytes}

pub one_more : (pieces : List Piece) (piece : Piece) → flat_map piece_bytes (pieces ++ piece ∷ []) ≡ flat_map piece_bytes pieces ++ piece_bytes piece
one_more pieces piece =
    flat_map-append piece_bytes pieces (piece ∷ []) ∙ ap (λ (bytes : List ℕ). flat_map piece_bytes pieces ++ bytes) (append-nil (piece_bytes piece))
