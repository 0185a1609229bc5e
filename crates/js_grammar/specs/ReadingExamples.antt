-- Worked examples of what scripts spell, each by computation alone.
use Rattle.std.specs.Prelude.{◌≡◌, [], ◌∷◌, ◌++◌, codes, Ok, Err, refl}
use Rattle.js_tree.specs.declared.operators.UpdateForm.TheVariants.{Postfix}
use Rattle.js_tree.specs.declared.operators.UpdateOp.TheVariants.{Increment}
use Rattle.js_tree.specs.declared.operators.BinaryOp.TheVariants as binary
use Rattle.js_tree.specs.declared.refusal.ReadKind.TheVariants.{Unexpected, Unsupported}
use Rattle.js_tree.specs.Tree.{Name, Pattern, Update, Chain, an_operand, no_operand, Evaluate}
use Rattle.js_grammar.specs.TokenExamples.{at}
use Rattle.js_grammar.specs.Tokens.{piece_at, tokens_from}
use Rattle.js_grammar.specs.Literals.{text_from}
use Rattle.js_grammar.specs.Patterns.{literal_of, pattern_at}
use Rattle.js_grammar.specs.Readers.{row_of, expect, name, semicolon, unbound}
use Rattle.js_grammar.specs.Expressions.{a_statement, a_part, expression, in_parentheses, primary, a_suffix, suffixed, postfix, unary, an_operand as operand_reader, chain, level, conditional, assignment}
use Rattle.js_grammar.specs.Statements.{evaluated, statement, deeper, script_within, script_of_text, block_from, for_statement, for_value, for_in_from, return_statement, clause_from, a_case, clauses, switch_statement, function_statement}

-- a postfix operator doesn't reach over a line's end, and a missing semicolon is inserted
pub postfix_then_line : script_of_text (codes "a++" ++ 10 ∷ codes "b")
    ≡ Ok (Evaluate (at 1 1) (Update (at 1 2) Postfix Increment (Name (at 1 1) (unbound (codes "a")))) ∷ Evaluate (at 2 1) (Name (at 2 1) (unbound (codes "b"))) ∷ [])
unfolding tokens_from piece_at text_from script_within deeper row_of a_statement statement evaluated expression a_part assignment conditional level chain operand_reader unary postfix suffixed primary a_suffix semicolon
postfix_then_line = refl

-- a row of operators of one level is one node
pub one_row : script_of_text (codes "a - b - c")
    ≡ Ok (Evaluate (at 1 1) (Chain (at 1 1) (Name (at 1 1) (unbound (codes "a"))) (an_operand (at 1 3) binary.Subtract (Name (at 1 5) (unbound (codes "b"))) (an_operand (at 1 7) binary.Subtract (Name (at 1 9) (unbound (codes "c"))) no_operand))) ∷ [])
unfolding tokens_from piece_at text_from script_within deeper row_of a_statement statement evaluated expression a_part assignment conditional level chain operand_reader unary postfix suffixed primary a_suffix semicolon
one_row = refl

-- `return` stands in functions alone
pub return_outside : script_of_text (codes "return 1")
    ≡ Err (Unexpected, at 1 1)
unfolding tokens_from piece_at text_from script_within deeper row_of a_statement statement evaluated expression a_part assignment conditional level chain operand_reader unary postfix suffixed primary a_suffix semicolon return_statement
return_outside = refl

-- in the header of a `for` loop `in` is no operator
pub in_in_header : script_of_text (codes "for (a in b in c);")
    ≡ Err (Unexpected, at 1 13)
unfolding tokens_from piece_at text_from script_within deeper row_of a_statement statement evaluated expression a_part assignment conditional level chain operand_reader unary postfix suffixed primary a_suffix semicolon for_statement for_value for_in_from expect
in_in_header = refl

-- a second `default` is refused at its word
pub second_default : script_of_text (codes "switch (a) { default: default: b }")
    ≡ Err (Unexpected, at 1 23)
unfolding tokens_from piece_at text_from script_within deeper row_of a_statement statement evaluated expression a_part assignment conditional level chain operand_reader unary postfix suffixed primary a_suffix semicolon expect in_parentheses switch_statement clauses a_case clause_from
second_default = refl

-- a function declaration stands directly in a script or a function
pub function_in_block : script_of_text (codes "{ function f() {} }")
    ≡ Err (Unsupported, at 1 3)
unfolding tokens_from piece_at text_from script_within deeper row_of a_statement statement evaluated expression a_part assignment conditional level chain operand_reader unary postfix suffixed primary a_suffix semicolon block_from function_statement name
function_in_block = refl

-- a pattern literal is a leaf, at the place of its first slash
pub pattern_in_brackets : script_of_text (codes "(/a/g)")
    ≡ Ok (Evaluate (at 1 1) (Pattern (at 1 2) (record { body = codes "a"; flags = codes "g" })) ∷ [])
unfolding tokens_from piece_at pattern_at literal_of script_within deeper row_of a_statement statement evaluated expression a_part assignment conditional level chain operand_reader unary postfix suffixed primary a_suffix semicolon in_parentheses expect
pattern_in_brackets = refl
