-- Worked examples of the laws, by computation alone.
use Rattle.std.specs.Prelude.{◌≡◌, ℕ, List, [], ◌∷◌, ◌++◌, map, codes, Ok, Result, refl}
use Rattle.std.specs.Fmt.{digits}
use Rattle.js_tree.specs.Tree.{StatementTree}
use Rattle.js_grammar.specs.Reading.{Refusal, ◌>>=◌}
use Rattle.js_grammar.specs.Tokens.{piece_at, tokens_from, tokens_of}
use Rattle.js_grammar.specs.Literals.{text_from}
use Rattle.js_grammar.specs.Readers.{row_of, expect, semicolon}
use Rattle.js_grammar.specs.Expressions.{a_statement, a_part, expression, in_parentheses, primary, a_suffix, suffixed, postfix, unary, an_operand, chain, level, conditional, assignment, an_item, item_value}
use Rattle.js_grammar.specs.Statements.{evaluated, statement, deeper, script_within}
use Rattle.js_grammar.specs.Placeless.{placeless_statement}
use Rattle.js_law_tokens.specs.BareTokens.{BareToken, bare_tokens}
use Rattle.js_law_round_trip.specs.Laws.{script_of_any_depth}

-- the script that a text spells, places put aside
abbrev pub placeless_script : List ℕ → Result (List StatementTree) Refusal
placeless_script us = script_of_any_depth us >>= λ body. Ok (map placeless_statement body)

-- the tokens of a text, as far as reading keeps them
abbrev pub bare_text : List ℕ → Result (List BareToken) Refusal
bare_text us = tokens_of us >>= λ ts. Ok (bare_tokens ts)

-- `a++`, a line feed and `(b)` are printed as two lines and read back
pub two_lines : placeless_script (codes "( a ++ ) ;" ++ 10 ∷ codes "b ;" ++ 10 ∷ []) ≡ placeless_script (codes "a++" ++ 10 ∷ codes "(b)")
unfolding tokens_from piece_at text_from script_within deeper row_of a_statement statement evaluated expression a_part assignment conditional level chain an_operand unary postfix suffixed primary a_suffix semicolon in_parentheses expect
two_lines = refl

-- an array with a last hole keeps its length
pub last_hole : placeless_script (codes "[ , a , , ] ;" ++ 10 ∷ []) ≡ placeless_script (codes "[,a,,]")
unfolding tokens_from piece_at text_from script_within deeper row_of a_statement statement evaluated expression a_part assignment conditional level chain an_operand unary postfix suffixed primary a_suffix semicolon an_item item_value expect
last_hole = refl

-- a property's name is printed as a text, and the comma behind the last property isn't printed
pub property_name : bare_text (codes "( x = ( { " ++ 34 ∷ codes "7" ++ 34 ∷ codes " : b } ) ) ;" ++ 10 ∷ []) ≡ bare_text (codes "x={7:b,}")
unfolding tokens_from piece_at text_from digits
property_name = refl
