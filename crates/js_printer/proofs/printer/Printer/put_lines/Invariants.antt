use Rattle.std.proofs.Common.{◌≡◌, ◌++◌, length}
use Rattle.js_grammar.specs.Spelling.{printed_bytes}
use Rattle.js_printer.proofs.printer.Printer.put_lines.Given as goal

abbrev pub invariant-loop-left : goal.invariant-loop-left
invariant-loop-left l = l.self ++ printed_bytes l.left ≡ l.fn.self ++ printed_bytes l.all

abbrev pub decreases-loop-left : goal.decreases-loop-left
decreases-loop-left l = length l.left
