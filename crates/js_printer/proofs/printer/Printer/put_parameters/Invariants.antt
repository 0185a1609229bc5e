-- The loop has written what it passed.
use Rattle.std.proofs.Common.{◌≡◌, ◌≤◌, length}
use Rattle.js_grammar.specs.Printing.{parameters_tokens}
use Rattle.js_printer.specs.Written.{written}
use Rattle.js_printer.proofs.printer.Printer.put_parameters.Given as goal

abbrev pub invariant-loop-left : goal.invariant-loop-left
invariant-loop-left l = (length l.left ≤ length l.all) × (written l.self (parameters_tokens l.left) ≡ written l.fn.self (parameters_tokens l.all))

abbrev pub decreases-loop-left : goal.decreases-loop-left
decreases-loop-left l = length l.left
