-- The bytes of a printed script are lexed as its printed tokens.
use Rattle.std.proofs.Common.{ℕ, suc, List, [], ◌∷◌, ◌++◌, length, Bool, true, false, refl, subst, arith}
use Rattle.std.specs.List.{flat_map, All}
use Rattle.std.proofs.lemmas.List.Elements.{All-nil, All-cons, All-head, All-tail}
use Rattle.js_tree.specs.declared.token.Token.{Token}
use Rattle.js_tree.specs.Tree.{StatementTree, statements_of}
use Rattle.js_grammar.specs.declared.around.Around.{Around}
use Rattle.js_grammar.specs.Statements.{at_top}
use Rattle.js_grammar.specs.Printing.{nowhere, statement_tokens}
use Rattle.js_grammar.specs.Spelling.{line, printed_bytes}
use Rattle.js_grammar.specs.Tokens.{divides, dot_first}
use Rattle.js_law_readable.specs.Readable.{IsStatement, AreStatements}
use Rattle.js_law_spelling.specs.Laws.{SpellingsAreRead}
use Rattle.js_law_spelling.specs.Lined.{line_tokens, lined}
use Rattle.js_law_spelling.specs.Laws.{PrintedScriptsAreLexed}
use Rattle.js_law_spelling.proofs.StandingTrees.{statement_stands}
use Rattle.js_law_spelling.proofs.Rows.{statement_row}
use Rattle.js_law_spelling.proofs.Pieces.{Lexed, NoSpaceFirst, end_lexed}
use Rattle.js_law_spelling.proofs.Lines.{IsSpellable, marked, marked_first, marked_behind, line_first, line_lexed}

-- ---- both parts of a list

front_all : (a b : List Token) → All IsSpellable (a ++ b) → All IsSpellable a
front_all [] b h = All-nil IsSpellable
front_all (t ∷ a) b h = All-cons IsSpellable t a (All-head IsSpellable t (a ++ b) h) (front_all a b (All-tail IsSpellable t (a ++ b) h))

back_all : (a b : List Token) → All IsSpellable (a ++ b) → All IsSpellable b
back_all [] b h = h
back_all (t ∷ a) b h = back_all a b (All-tail IsSpellable t (a ++ b) h)

-- ---- lines

module _ (read : SpellingsAreRead) (a : Around) where
  script_first : (body : List StatementTree) → AreStatements a (statements_of body) → All IsSpellable (flat_map statement_tokens body) → NoSpaceFirst (printed_bytes body)
  script_first [] is spellable = refl
  script_first (s ∷ ss) is spellable = line_first read (statement_tokens s) (printed_bytes ss) (statement_row a s is.0) (front_all (statement_tokens s) (flat_map statement_tokens ss) spellable)

  -- a statement's line, and what is lexed behind it
  statement_lexed : (s : StatementTree) (after_line : Bool) (before wanted : List Token) (rest : List ℕ) → IsStatement a s → All IsSpellable (statement_tokens s) → NoSpaceFirst rest → ((behind : List Token) → Lexed true behind rest wanted) → Lexed after_line before (line (statement_tokens s) ++ rest) (marked after_line (statement_tokens s) ++ wanted)
  statement_lexed s after_line before wanted rest is spellable none h =
      line_lexed read (statement_tokens s) after_line before wanted rest (statement_row a s is) spellable ((statement_stands a s is).stand (divides before) (dot_first before)) none h

  lines_lexed : (body : List StatementTree) → AreStatements a (statements_of body) → All IsSpellable (flat_map statement_tokens body) → (before : List Token) → Lexed true before (printed_bytes body) (flat_map line_tokens body)
  lines_lexed [] is spellable before = end_lexed true before
  lines_lexed (s ∷ ss) is spellable before =
      let others = back_all (statement_tokens s) (flat_map statement_tokens ss) spellable in
      let here = front_all (statement_tokens s) (flat_map statement_tokens ss) spellable in
      let row = statement_lexed s true before (flat_map line_tokens ss) (printed_bytes ss) is.0 here (script_first ss is.1 others) (lines_lexed ss is.1 others) in
      subst (λ ts. Lexed true before (printed_bytes (s ∷ ss)) (ts ++ flat_map line_tokens ss)) (marked_behind (statement_tokens s) true false ((statement_stands a s is.0).stand true false)) row

  script_lexed : (body : List StatementTree) → AreStatements a (statements_of body) → All IsSpellable (flat_map statement_tokens body) → Lexed false [] (printed_bytes body) (lined body)
  script_lexed [] is spellable = end_lexed false []
  script_lexed (s ∷ ss) is spellable =
      let others = back_all (statement_tokens s) (flat_map statement_tokens ss) spellable in
      let here = front_all (statement_tokens s) (flat_map statement_tokens ss) spellable in
      let row = statement_lexed s false [] (flat_map line_tokens ss) (printed_bytes ss) is.0 here (script_first ss is.1 others) (lines_lexed ss is.1 others) in
      subst (λ ts. Lexed false [] (printed_bytes (s ∷ ss)) (ts ++ flat_map line_tokens ss)) (marked_first (statement_tokens s) true false ((statement_stands a s is.0).stand true false)) row

pub scripts_lexed : SpellingsAreRead → PrintedScriptsAreLexed
scripts_lexed read body is spellable =
    let whole = (script_lexed read at_top body is spellable).lexes (suc (length (printed_bytes body))) nowhere (omega arith) in
    (whole.tokens, whole.lexed, whole.same)
