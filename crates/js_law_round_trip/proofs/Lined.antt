-- The tokens of a printed script, a line for each statement, are read again as the same statements.
use Rattle.std.proofs.Common.{◌≡◌, ℕ, zero, suc, ◌+◌, ◌-◌, ◌<◌, ◌≤◌, List, [], ◌∷◌, ◌++◌, length, Ok, Bool, true, false, refl, ◌∙◌, length-append, arith}
use Rattle.std.specs.Prelude.{◌*◌, map}
use Rattle.std.specs.List.{flat_map}
use Rattle.js_tree.specs.declared.place.Place.{Place}
use Rattle.js_tree.specs.declared.token.Token.{Token}
use Rattle.js_tree.specs.Tree.{StatementTree, statements_of}
use Rattle.js_grammar.specs.declared.around.Around.{Around}
use Rattle.js_grammar.specs.declared.turn.Turn.TheVariants.{More}
use Rattle.js_grammar.specs.Readers.{row_of}
use Rattle.js_grammar.specs.Expressions.{a_statement as statement_turn, closes}
use Rattle.js_grammar.specs.Statements.{statement, deeper, at_top, script_within, script_without_limit}
use Rattle.js_grammar.specs.Printing.{statement_tokens}
use Rattle.js_grammar.specs.Placeless.{placeless_statement}
use Rattle.js_law_readable.specs.Readable.{AreStatements, IsStatement, ends_open}
use Rattle.js_law_rereading.proofs.RereadParts.{row_more, row_end}
use Rattle.js_law_rereading.proofs.RereadStatements.{begins_part, free_always, opens_statement, no_part_statement, nested_again, statement_at}
use Rattle.js_law_rereading.proofs.Rereading.{statement_again}
use Rattle.js_law_places.proofs.FirstLine.{first_line}
use Rattle.js_law_spelling.specs.Lined.{behind_line, line_tokens, lined}

-- ---- a line's end before a statement isn't seen

length_behind : (ts : List Token) → length (behind_line ts) ≡ length ts
length_behind [] = refl
length_behind (t ∷ ts) = refl

part_behind : (ts rest : List Token) → begins_part (behind_line ts ++ rest) ≡ begins_part (ts ++ rest)
part_behind [] rest = refl
part_behind (t ∷ ts) rest = refl

closes_behind : (ts rest : List Token) → closes (behind_line ts ++ rest) ≡ closes (ts ++ rest)
closes_behind [] rest = refl
closes_behind (t ∷ ts) rest = refl

-- the tokens of statements, each behind a line's end
abbrev lines : List StatementTree → List Token
lines ss = flat_map line_tokens ss

-- nothing that would go on with a statement before them
no_part_lines : (ss : List StatementTree) → AreStatements at_top (statements_of ss) → begins_part (lines ss) ≡ false
no_part_lines [] are = refl
no_part_lines (s ∷ ss) are = part_behind (statement_tokens s) (lines ss) ∙ no_part_statement at_top s (lines ss) are.0

-- a statement has a token at least
statement_some : (s : StatementTree) → IsStatement at_top s → 0 < length (statement_tokens s)
statement_some s is = by_tokens (statement_tokens s) (opens_statement at_top s [] is)
  where
    by_tokens : (ts : List Token) → closes (ts ++ []) ≡ false → 0 < length ts
    by_tokens [] h = cc
    by_tokens (t ∷ ts) h = omega arith

module _ (end : Place) where
  first_behind : (room : ℕ) (around : Around) (t : Token) (ts : List Token) (b : Bool) → statement end (deeper end room) around (record t { after_line = true } ∷ ts) ≡ statement end (deeper end room) around (record t { after_line = b } ∷ ts)
  first_behind room around t ts true = refl
  first_behind room around t ts false = first_line end room around t ts

  statement_behind : (room : ℕ) (around : Around) (ts rest : List Token) → statement end (deeper end room) around (behind_line ts ++ rest) ≡ statement end (deeper end room) around (ts ++ rest)
  statement_behind room around [] rest = refl
  statement_behind room around (t ∷ ts) rest = first_behind room around t (ts ++ rest) t.after_line

  nested_behind : (room : ℕ) (around : Around) (ts rest : List Token) → 0 < room → (deeper end room).statement around (behind_line ts ++ rest) ≡ (deeper end room).statement around (ts ++ rest)
  nested_behind room around ts rest some = rw (statement_at end room around (behind_line ts ++ rest) some, statement_at end room around (ts ++ rest) some, statement_behind (room - 1) around ts rest) refl

  turn_behind : (room : ℕ) (around : Around) (ts rest : List Token) → 0 < room → closes (ts ++ rest) ≡ false → statement_turn (deeper end room) around (behind_line ts ++ rest) ≡ statement_turn (deeper end room) around (ts ++ rest)
  unfolding statement_turn
  turn_behind room around ts rest some opens = rw (closes_behind ts rest, opens, nested_behind room around ts rest some) refl

  -- ---- statements, a line for each

  abbrev Turns : ℕ → List Token → StatementTree → List Token → Type 0
  Turns room ts s rest = statement_turn (deeper end room) at_top ts ≡ Ok (More (placeless_statement s), rest)

  turn_again : (room : ℕ) (s : StatementTree) (ss : List StatementTree) → IsStatement at_top s → AreStatements at_top (statements_of ss) → length (statement_tokens s) < room → Turns room (statement_tokens s ++ lines ss) s (lines ss)
  unfolding statement_turn
  turn_again room s ss is are fits =
      let free = free_always (ends_open s) (lines ss) (no_part_lines ss are) in
      rw (opens_statement at_top s (lines ss) is, nested_again end at_top s room (lines ss) (statement_again end at_top s is) fits free) refl

  abbrev Rows : ℕ → ℕ → List Token → List StatementTree → Type 0
  Rows room n ts ss = row_of (statement_turn (deeper end room) at_top) (suc n) ts ≡ Ok (map placeless_statement ss, [])

  lines_again : (room n : ℕ) (ss : List StatementTree) → AreStatements at_top (statements_of ss) → length (lines ss) < room → length (lines ss) ≤ n → Rows room n (lines ss) ss
  unfolding statement_turn
  lines_again room n [] are fits le = row_end (statement_turn (deeper end room) at_top) n [] [] refl
  lines_again room zero (s ∷ ss) are fits le = absurd (omega (arith, statement_some s are.0, length_behind (statement_tokens s), length-append (line_tokens s) (lines ss)))
  lines_again room (suc n) (s ∷ ss) are fits le =
      let size = length-append (line_tokens s) (lines ss) in
      let same = length_behind (statement_tokens s) in
      let some = statement_some s are.0 in
      let turn : Turns room (lines (s ∷ ss)) s (lines ss) = turn_behind room at_top (statement_tokens s) (lines ss) (omega arith) (opens_statement at_top s (lines ss) are.0) ∙ turn_again room s ss are.0 are.1 (omega (arith, size, same)) in
      row_more (statement_turn (deeper end room) at_top) (suc n) (lines (s ∷ ss)) (lines ss) [] (placeless_statement s) (map placeless_statement ss) turn (lines_again room n ss are.1 (omega (arith, size)) (omega (arith, size, same, some)))

  lined_rows : (room n : ℕ) (body : List StatementTree) → AreStatements at_top (statements_of body) → length (lined body) < room → length (lined body) ≤ n → Rows room n (lined body) body
  unfolding statement_turn
  lined_rows room n [] are fits le = row_end (statement_turn (deeper end room) at_top) n [] [] refl
  lined_rows room zero (s ∷ ss) are fits le = absurd (omega (arith, statement_some s are.0, length-append (statement_tokens s) (lines ss)))
  lined_rows room (suc n) (s ∷ ss) are fits le =
      let size = length-append (statement_tokens s) (lines ss) in
      let some = statement_some s are.0 in
      row_more (statement_turn (deeper end room) at_top) (suc n) (lined (s ∷ ss)) (lines ss) [] (placeless_statement s) (map placeless_statement ss) (turn_again room s ss are.0 are.1 (omega (arith, size))) (lines_again room n ss are.1 (omega (arith, size)) (omega (arith, size, some)))

  -- a whole script, without a limit of nesting
  pub lined_again : (body : List StatementTree) → AreStatements at_top (statements_of body) → script_without_limit end (lined body) ≡ Ok (map placeless_statement body)
  unfolding script_within
  lined_again body are =
      let ts = lined body in
      let all : Rows (2 * length ts + 2) (length ts) ts body = lined_rows (2 * length ts + 2) (length ts) body are (omega arith) (omega arith) in
      rw all refl
