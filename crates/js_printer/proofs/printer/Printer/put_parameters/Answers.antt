-- What the loop leaves: its turn by the lemma in Rows, and the end of the row.
use Rattle.std.proofs.Common.{length, refl}
use Rattle.js_grammar.specs.Printing.{expression_tokens, parameters_tokens}
use Rattle.js_printer.proofs.Rows.{first_and_rest, all_written, names_turn}
use Rattle.js_printer.proofs.printer.Printer.put_parameters.Goals as goal

pub loop-left-preserved : goal.loop-left-preserved
loop-left-preserved c =
    names_turn _ _ c.one-item.result _ _ _ _ _ _ (first_and_rest c.loop-left.left.now c.one-item.result c.in-len1-up.len_at_least c.one-item.is) c.is_empty.ensures c.in_ok-put_word.ensures c.in_ok-put_comma_if.ensures c.loop-left.invariant

pub returns : goal.returns
unfolding expression_tokens
returns c = all_written (λ xs. length xs) (λ xs. parameters_tokens xs) c.loop-left.left.now _ _ _ refl c.in_default.len_below c.loop-left.invariant
