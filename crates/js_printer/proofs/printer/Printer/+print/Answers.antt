-- What the loops leave: each turn by its lemma in Rows, and the end of the row.
use Rattle.std.proofs.Common.{refl, ap, ◌∙◌}
use Rattle.js_tree.specs.Size.{expressions_size, items_size, properties_size, suffixes_size, operands_size, statements_size, declarations_size, branches_size, clauses_size}
use Rattle.js_tree.specs.Tree.{expressions_of, items_of, statements_of}
use Rattle.js_tree.specs.View.{properties_of, suffixes_of, operands_of, declarations_of, branches_of, clauses_of}
use Rattle.js_grammar.specs.Printing.{expression_tokens, expressions_tokens, items_tokens, properties_tokens, suffixes_tokens, operands_tokens, statements_tokens, declarations_tokens, branches_tokens, clauses_tokens}
use Rattle.js_printer.specs.Written.{written}
use Rattle.js_printer.proofs.Rows.{first_and_rest, all_written, expressions_turn, items_turn, properties_turn, suffixes_turn, operands_turn, statements_turn, declarations_turn, branches_turn, clauses_turn}
use Rattle.js_printer.proofs.printer.Printer.+print.Goals as goal

pub put_expressions-loop-left-preserved : goal.put_expressions-loop-left-preserved
put_expressions-loop-left-preserved t c =
    expressions_turn _ _ c.one-item.result _ _ _ _ _ _ (first_and_rest c.loop-left.left.now c.one-item.result c.in-len1-up.len_at_least c.one-item.is) c.is_empty.ensures c.in_ok-put_expression.ensures c.in_ok-put_comma_if.ensures c.loop-left.invariant

pub put_expressions-returns : goal.put_expressions-returns
unfolding expression_tokens
put_expressions-returns t c = all_written (λ xs. expressions_size (expressions_of xs)) (λ xs. expressions_tokens (expressions_of xs)) c.loop-left.left.now _ _ _ refl c.in_default.len_below c.loop-left.invariant

pub put_items-loop-left-preserved : goal.put_items-loop-left-preserved
put_items-loop-left-preserved t c =
    items_turn _ _ c.one-item.result _ _ _ _ _ (first_and_rest c.loop-left.left.now c.one-item.result c.in-len1-up.len_at_least c.one-item.is) c.is_empty.ensures c.in_ok-put_item.ensures c.loop-left.invariant

pub put_items-returns : goal.put_items-returns
unfolding expression_tokens
put_items-returns t c = all_written (λ xs. items_size (items_of xs)) (λ xs. items_tokens (items_of xs)) c.loop-left.left.now _ _ _ refl c.in_default.len_below c.loop-left.invariant

pub put_properties-loop-left-preserved : goal.put_properties-loop-left-preserved
put_properties-loop-left-preserved t c =
    properties_turn _ _ c.one-item.result _ _ _ _ _ _ _ _ (first_and_rest c.loop-left.left.now c.one-item.result c.in-len1-up.len_at_least c.one-item.is) c.is_empty.ensures c.in_ok-put_text.ensures c.in_ok-put_sign.ensures c.in_ok-put_expression.ensures c.in_ok-put_comma_if.ensures c.loop-left.invariant

pub put_properties-returns : goal.put_properties-returns
unfolding expression_tokens
put_properties-returns t c = all_written (λ xs. properties_size (properties_of xs)) (λ xs. properties_tokens (properties_of xs)) c.loop-left.left.now _ _ _ refl c.in_default.len_below c.loop-left.invariant

pub put_suffixes-loop-left-preserved : goal.put_suffixes-loop-left-preserved
put_suffixes-loop-left-preserved t c =
    suffixes_turn _ _ c.one-item.result _ _ _ _ (first_and_rest c.loop-left.left.now c.one-item.result c.in-len1-up.len_at_least c.one-item.is) c.in_ok-put_suffix.ensures c.loop-left.invariant

pub put_suffixes-returns : goal.put_suffixes-returns
unfolding expression_tokens
put_suffixes-returns t c = all_written (λ xs. suffixes_size (suffixes_of xs)) (λ xs. suffixes_tokens (suffixes_of xs)) c.loop-left.left.now _ _ _ refl c.in_default.len_below c.loop-left.invariant

pub put_operands-loop-left-preserved : goal.put_operands-loop-left-preserved
put_operands-loop-left-preserved t c =
    operands_turn _ _ c.one-item.result _ _ _ _ _ (first_and_rest c.loop-left.left.now c.one-item.result c.in-len1-up.len_at_least c.one-item.is) c.in_ok-put_binary.ensures c.in_ok-put_expression.ensures c.loop-left.invariant

pub put_operands-returns : goal.put_operands-returns
unfolding expression_tokens
put_operands-returns t c = all_written (λ xs. operands_size (operands_of xs)) (λ xs. operands_tokens (operands_of xs)) c.loop-left.left.now _ _ _ refl c.in_default.len_below c.loop-left.invariant

pub put_statements-loop-left-preserved : goal.put_statements-loop-left-preserved
put_statements-loop-left-preserved t c =
    statements_turn _ _ c.one-item.result _ _ _ _ (first_and_rest c.loop-left.left.now c.one-item.result c.in-len1-up.len_at_least c.one-item.is) c.in_ok-put_statement.ensures c.loop-left.invariant

pub put_statements-returns : goal.put_statements-returns
unfolding expression_tokens
put_statements-returns t c = all_written (λ xs. statements_size (statements_of xs)) (λ xs. statements_tokens (statements_of xs)) c.loop-left.left.now _ _ _ refl c.in_default.len_below c.loop-left.invariant

pub put_declarations-loop-left-preserved : goal.put_declarations-loop-left-preserved
put_declarations-loop-left-preserved t c =
    declarations_turn _ _ c.one-item.result _ _ _ _ _ _ _ (first_and_rest c.loop-left.left.now c.one-item.result c.in-len1-up.len_at_least c.one-item.is) c.is_empty.ensures c.in_ok-put_word.ensures c.in_ok-put_first_value.ensures c.in_ok-put_comma_if.ensures c.loop-left.invariant

pub put_declarations-returns : goal.put_declarations-returns
unfolding expression_tokens
put_declarations-returns t c = all_written (λ xs. declarations_size (declarations_of xs)) (λ xs. declarations_tokens (declarations_of xs)) c.loop-left.left.now _ _ _ refl c.in_default.len_below c.loop-left.invariant

pub put_branches-loop-left-preserved : goal.put_branches-loop-left-preserved
put_branches-loop-left-preserved t c =
    branches_turn _ _ c.one-item.result _ _ _ _ _ _ _ _ _ _ (first_and_rest c.loop-left.left.now c.one-item.result c.in-len1-up.len_at_least c.one-item.is) c.is_empty.ensures c.in_ok-put_keyword.ensures c.in_ok-put_sign.ensures c.in_ok-put_expression.ensures c.in_ok-put_sign-2.ensures c.in_ok-put_statement.ensures c.in_ok-put_else_if.ensures c.loop-left.invariant

pub put_branches-returns : goal.put_branches-returns
unfolding expression_tokens
put_branches-returns t c = all_written (λ xs. branches_size (branches_of xs)) (λ xs. branches_tokens (branches_of xs)) c.loop-left.left.now _ _ _ refl c.in_default.len_below c.loop-left.invariant

pub put_clauses-loop-left-preserved : goal.put_clauses-loop-left-preserved
put_clauses-loop-left-preserved t c =
    clauses_turn _ _ c.one-item.result _ _ _ _ _ (first_and_rest c.loop-left.left.now c.one-item.result c.in-len1-up.len_at_least c.one-item.is) c.in_ok-put_test.ensures (c.in_ok-put_statements.ensures ∙ ap (λ xs. written c.put_test.new.self (statements_tokens (statements_of xs))) c.as_slice.ensures) c.loop-left.invariant

pub put_clauses-returns : goal.put_clauses-returns
unfolding expression_tokens
put_clauses-returns t c = all_written (λ xs. clauses_size (clauses_of xs)) (λ xs. clauses_tokens (clauses_of xs)) c.loop-left.left.now _ _ _ refl c.in_default.len_below c.loop-left.invariant
