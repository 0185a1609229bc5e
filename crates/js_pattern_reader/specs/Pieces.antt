-- The pieces of a pattern (ECMA-262 5.1, section 15.10.1), which are read one after the other.
use Rattle.std.specs.Prelude.{ℕ, ◌+◌, Bool, true, false, nat_eq, nat_lt, if◌then◌else◌, List, [], ◌∷◌, Some, None, Result, Ok}
use Rattle.js_pattern.specs.declared.class.ClassItem.TheVariants as item
use Rattle.js_pattern.specs.declared.node.Assertion.TheVariants.{Start, End}
use Rattle.js_pattern.specs.Tree.{Tree, unit, any, class, reference}
use Rattle.js_pattern_reader.specs.declared.answer.PatternAnswer.{PatternAnswer}
use Rattle.js_pattern_reader.specs.declared.escapes.ClassAtom.{ClassAtom}
use Rattle.js_pattern_reader.specs.declared.escapes.ClassAtom.TheVariants as atom
use Rattle.js_pattern_reader.specs.declared.escapes.Escape.{Escape}
use Rattle.js_pattern_reader.specs.declared.escapes.Escape.TheVariants as escape
use Rattle.js_pattern_reader.specs.declared.pieces.Piece.{Piece}
use Rattle.js_pattern_reader.specs.declared.pieces.Piece.TheVariants as piece
use Rattle.js_pattern_reader.specs.declared.limits.TheConstants.{MOST_GROUPS}
use Rattle.js_pattern_reader.specs.Answers.{bad, unsupported, ◌>>=◌}
use Rattle.js_pattern_reader.specs.Escapes.{escape_at}
use Rattle.js_pattern_reader.specs.Classes.{class_of}

-- the units that are left, and how many groups have begun
pub record Spot : Type 0 where
  pub rest : List ℕ
  pub groups : ℕ

abbrev pub spot : List ℕ → ℕ → Spot
spot us n = record { rest = us; groups = n }

-- a reader that counts groups
abbrev pub ReadAt : Type 0 → Type 0
ReadAt A = Spot → Result (A × Spot) PatternAnswer

-- ---- escapes

-- a unit, or a set as a class of its own
abbrev pub atom_tree : ClassAtom → Tree
atom_tree (atom.Unit u) = unit u
atom_tree (atom.Set s) = class (record { excludes = false; items = item.Set s ∷ [] })

abbrev pub escape_piece : Escape → Piece
escape_piece (escape.Atom a) = piece.Atom (atom_tree a)
escape_piece (escape.Assertion a) = piece.Assertion a
escape_piece (escape.Reference n) = piece.Atom (reference n)

abbrev pub escaped_piece : ℕ → ℕ → List ℕ → Result (Piece × Spot) PatternAnswer
escaped_piece count n [] = bad
escaped_piece count n (u ∷ us) = escape_at count u us >>= λ x. Ok (escape_piece x.0, spot x.1 n)

-- ---- groups

-- behind `(?`: `:` (58); look-ahead by `=` (61) and `!` (33) isn't supported
abbrev pub no_capture : ℕ → List ℕ → Result (Piece × Spot) PatternAnswer
no_capture n [] = bad
no_capture n (u ∷ us) =
    if nat_eq u 58 then Ok (piece.Open None, spot us n)
    else if nat_eq u 61 then unsupported
    else if nat_eq u 33 then unsupported
    else bad

abbrev pub capture : ℕ → List ℕ → Result (Piece × Spot) PatternAnswer
capture n us = if nat_lt n MOST_GROUPS then Ok (piece.Open (Some n), spot us (n + 1)) else unsupported

-- a group behind `(`; it is kept but for `(?` (63)
abbrev pub open_piece : ℕ → List ℕ → Result (Piece × Spot) PatternAnswer
open_piece n [] = capture n []
open_piece n (u ∷ us) = if nat_eq u 63 then no_capture n us else capture n (u ∷ us)

-- ---- all pieces

abbrev pub class_piece : ℕ → List ℕ → Result (Piece × Spot) PatternAnswer
class_piece n us = class_of us >>= λ x. Ok (piece.Atom (class x.0), spot x.1 n)

-- any unit but these stands for itself: `*` (42), `+` (43), `?` (63), `]` (93), `{` (123) and `}` (125)
abbrev pub stands_alone : ℕ → Bool
stands_alone u =
    if nat_eq u 42 then false
    else if nat_eq u 43 then false
    else if nat_eq u 63 then false
    else if nat_eq u 93 then false
    else if nat_eq u 123 then false
    else if nat_eq u 125 then false
    else true

-- `)` (41), which isn't taken, `|` (124), `^` (94), `$` (36), `.` (46), `[` (91), `(` (40), `\` (92), or a unit
abbrev pub piece_by : ℕ → ℕ → ℕ → List ℕ → Result (Piece × Spot) PatternAnswer
piece_by count n u us =
    if nat_eq u 41 then Ok (piece.End, spot (u ∷ us) n)
    else if nat_eq u 124 then Ok (piece.Bar, spot us n)
    else if nat_eq u 94 then Ok (piece.Assertion Start, spot us n)
    else if nat_eq u 36 then Ok (piece.Assertion End, spot us n)
    else if nat_eq u 46 then Ok (piece.Atom any, spot us n)
    else if nat_eq u 91 then class_piece n us
    else if nat_eq u 40 then open_piece n us
    else if nat_eq u 92 then escaped_piece count n us
    else if stands_alone u then Ok (piece.Atom (unit u), spot us n)
    else bad

-- the piece that comes next, in a pattern of so many groups
abbrev pub next_piece : ℕ → List ℕ → ℕ → Result (Piece × Spot) PatternAnswer
next_piece count [] n = Ok (piece.End, spot [] n)
next_piece count (u ∷ us) n = piece_by count n u us
