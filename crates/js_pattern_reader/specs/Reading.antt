-- The reading of patterns (ECMA-262 5.1, section 15.10.1), with the first refusal in the order of reading.
use Rattle.std.specs.Prelude.{ℕ, zero, suc, ◌+◌, List, [], ◌∷◌, map, length, Option, Some, None, Result, Ok}
use Rattle.js_pattern.specs.Tree.{Tree, assertion, row, alternatives, group, repeat, trees_of}
use Rattle.js_pattern.specs.Pattern.{PatternTree}
use Rattle.js_pattern_reader.specs.declared.answer.PatternAnswer.{PatternAnswer}
use Rattle.js_pattern_reader.specs.declared.counts.Counts.{Counts}
use Rattle.js_pattern_reader.specs.declared.pieces.Piece.{Piece}
use Rattle.js_pattern_reader.specs.declared.pieces.Piece.TheVariants as piece
use Rattle.js_pattern_reader.specs.declared.body.Turn.{Turn}
use Rattle.js_pattern_reader.specs.declared.body.Turn.TheVariants as turn
use Rattle.js_pattern_reader.specs.declared.limits.TheConstants.{MOST_NESTED}
use Rattle.js_pattern_reader.specs.Answers.{bad, unsupported, ◌>>=◌}
use Rattle.js_pattern_reader.specs.Counts.{quantifier, greedy_at, behind}
use Rattle.js_pattern_reader.specs.Groups.{groups_in}
use Rattle.js_pattern_reader.specs.Pieces.{Spot, spot, ReadAt, next_piece}
use Rattle.js_pattern_reader.specs.Flags.{flags_of}

-- ---- terms

-- a part in which the groups from one up to another have begun, repeated where it is
abbrev pub repeated : Tree → ℕ → ℕ → Option Counts → List ℕ → Tree × Spot
repeated x from to None us = (x, spot us to)
repeated x from to (Some c) us =
    (repeat x (record { from_group = from; to_group = to; least = c.least; most = c.most; greedy = (greedy_at us).0 }), spot ((greedy_at us).1) to)

-- a part that was read, with its quantifier; so many groups had begun before it
abbrev pub quantified : Tree → ℕ → ReadAt Tree
quantified x from c = quantifier c.rest >>= λ q. Ok (repeated x from c.groups q.0 q.1)

abbrev pub term : Tree → ℕ → ReadAt Turn
term x from c = quantified x from c >>= λ q. Ok (turn.Term q.0, q.1)

-- the `)` (41) behind what stands in a group
abbrev pub group_end : Option ℕ → Tree → ReadAt Tree
group_end number x c = behind 41 c.rest >>= λ us. Ok (group number x, spot us c.groups)

abbrev pub group_body : ReadAt Tree → Option ℕ → ReadAt Tree
group_body inside number c = inside c >>= λ x. group_end number x.0 x.1

-- A term, a bar, or the end of what is read here. An assertion takes no quantifier.
abbrev pub turn_by : ReadAt Tree → ℕ → Piece → ReadAt Turn
turn_by inside from piece.End c = Ok (turn.End, c)
turn_by inside from piece.Bar c = Ok (turn.Bar, c)
turn_by inside from (piece.Assertion a) c = Ok (turn.Term (assertion a), c)
turn_by inside from (piece.Atom x) c = term x from c
turn_by inside from (piece.Open number) c = group_body inside number c >>= λ x. term x.0 from x.1

-- in a pattern of so many groups, with what reads inside of a group
abbrev pub next_turn : ℕ → ReadAt Tree → ReadAt Turn
next_turn count inside c = next_piece count c.rest c.groups >>= λ p. turn_by inside c.groups p.0 p.1

-- ---- rows

-- the first row of a body or a group, and those that bars part from it
pub record Rows : Type 0 where
  pub first : List Tree
  pub others : List (List Tree)

abbrev pub row_of : List Tree → Tree
row_of terms = row (trees_of terms)

-- without a bar it is a row, also one of a single term or none
abbrev pub tree_of_rows : List Tree → Tree
tree_of_rows (x ∷ []) = x
tree_of_rows xs = alternatives (trees_of xs)

-- the rows where a turn was read, before those that come behind it
abbrev pub rows_by : Turn → ReadAt Rows → ReadAt Rows
rows_by turn.End more c = Ok (record { first = []; others = [] }, c)
rows_by turn.Bar more c = more c >>= λ r. Ok (record { first = []; others = r.0.first ∷ r.0.others }, r.1)
rows_by (turn.Term x) more c = more c >>= λ r. Ok (record { first = x ∷ r.0.first; others = r.0.others }, r.1)

abbrev pub rows_from : ℕ → ReadAt Tree → ℕ → ReadAt Rows
rows_from count inside zero c = bad
rows_from count inside (suc turns) c = next_turn count inside c >>= λ t. rows_by t.0 (rows_from count inside turns) t.1

-- The rows up to `)` or the end. Each turn takes a unit, so one more than there are units is enough.
abbrev pub all_rows : ℕ → ReadAt Tree → ReadAt Tree
all_rows count inside c =
    rows_from count inside (length c.rest + 1) c >>= λ r. Ok (tree_of_rows (row_of r.0.first ∷ map row_of r.0.others), r.1)

-- what stands in a group, where so many groups may be nested from here on
unfoldable pub inside_of : ℕ → ℕ → ReadAt Tree
inside_of count zero c = unsupported
inside_of count (suc room) c = all_rows count (inside_of count room) c

-- ---- the whole

-- nothing is left behind the rows
abbrev pub whole_by : Tree → ℕ → List ℕ → Result (Tree × ℕ) PatternAnswer
whole_by x groups [] = Ok (x, groups)
whole_by x groups (u ∷ us) = bad

-- a body: its tree, and how many groups it keeps
abbrev pub body_of : List ℕ → Result (Tree × ℕ) PatternAnswer
body_of us = all_rows (groups_in us) (inside_of (groups_in us) MOST_NESTED) (spot us 0) >>= λ x. whole_by x.0 (x.1.groups) (x.1.rest)

-- a pattern: the body first, and then the flags
abbrev pub pattern_of : List ℕ → List ℕ → Result PatternTree PatternAnswer
pattern_of body flags = body_of body >>= λ b. flags_of flags >>= λ f. Ok (record { tree = b.0; groups = b.1; flags = f })
