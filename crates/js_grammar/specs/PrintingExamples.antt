-- Worked examples of what trees are printed as, each by computation alone.
use Rattle.std.specs.Prelude.{◌≡◌, [], ◌∷◌, ◌++◌, codes, Ok, refl}
use Rattle.js_grammar.specs.Reading.{◌>>=◌}
use Rattle.js_grammar.specs.Tokens.{piece_at, tokens_from}
use Rattle.js_grammar.specs.Literals.{text_from}
use Rattle.js_grammar.specs.Patterns.{literal_of, pattern_at}
use Rattle.js_grammar.specs.Readers.{row_of, expect, semicolon}
use Rattle.js_grammar.specs.Expressions.{a_statement, a_part, expression, in_parentheses, primary, a_suffix, suffixed, postfix, unary, an_operand, chain, level, conditional, assignment, arguments, an_argument, an_item, item_value}
use Rattle.js_grammar.specs.Statements.{evaluated, statement, deeper, script_within, script_of_text, if_statement, a_branch, one_branch, otherwise, block_from}
use Rattle.js_grammar.specs.Printing.{expression_tokens}
use Rattle.js_grammar.specs.Spelling.{printed_bytes}

-- `a++`, a line feed and `(b)` are two statements
pub two_statements : (script_of_text (codes "a++" ++ 10 ∷ codes "(b)") >>= λ body. Ok (printed_bytes body)) ≡ Ok (codes "( a ++ ) ;" ++ 10 ∷ codes "b ;" ++ 10 ∷ [])
unfolding tokens_from piece_at text_from script_within deeper row_of a_statement statement evaluated expression a_part assignment conditional level chain an_operand unary postfix suffixed primary a_suffix semicolon in_parentheses expect expression_tokens
two_statements = refl

-- `a = b`, a line feed and `(c)` are one
pub one_statement : (script_of_text (codes "a = b" ++ 10 ∷ codes "(c)") >>= λ body. Ok (printed_bytes body)) ≡ Ok (codes "( a = ( b ( c ) ) ) ;" ++ 10 ∷ [])
unfolding tokens_from piece_at text_from script_within deeper row_of a_statement statement evaluated expression a_part assignment conditional level chain an_operand unary postfix suffixed primary a_suffix semicolon in_parentheses expect arguments an_argument expression_tokens
one_statement = refl

-- behind a last hole stands one more comma
pub last_hole : (script_of_text (codes "[,a,,]") >>= λ body. Ok (printed_bytes body)) ≡ Ok (codes "[ , a , , ] ;" ++ 10 ∷ [])
unfolding tokens_from piece_at text_from script_within deeper row_of a_statement statement evaluated expression a_part assignment conditional level chain an_operand unary postfix suffixed primary a_suffix semicolon an_item item_value expect expression_tokens
last_hole = refl

-- branches
pub branches : (script_of_text (codes "if (a) b; else if (c) {} else d") >>= λ body. Ok (printed_bytes body)) ≡ Ok (codes "if ( a ) b ; else if ( c ) { } else d ;" ++ 10 ∷ [])
unfolding tokens_from piece_at text_from script_within deeper row_of a_statement statement evaluated expression a_part assignment conditional level chain an_operand unary postfix suffixed primary a_suffix semicolon in_parentheses expect if_statement a_branch one_branch otherwise block_from expression_tokens
branches = refl

-- a pattern literal in brackets, as it is kept; é is 233
pub pattern_literal : (script_of_text (codes "x = /" ++ 233 ∷ codes "/g") >>= λ body. Ok (printed_bytes body)) ≡ Ok (codes "( x = ( /\\u00e9/g ) ) ;" ++ 10 ∷ [])
unfolding tokens_from piece_at pattern_at literal_of script_within deeper row_of a_statement statement evaluated expression a_part assignment conditional level chain an_operand unary postfix suffixed primary a_suffix semicolon expression_tokens
pattern_literal = refl
