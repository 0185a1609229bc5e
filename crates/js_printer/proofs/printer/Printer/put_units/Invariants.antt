use Rattle.std.proofs.Common.{◌≡◌, ◌++◌, take}
use Rattle.std.specs.List.{flat_map}
use Rattle.js_grammar.specs.Patterns.{ascii_unit}
use Rattle.js_printer.proofs.printer.Printer.put_units.Given as goal

abbrev pub invariant-loop-unit : goal.invariant-loop-unit
invariant-loop-unit l = l.self ≡ l.fn.self ++ flat_map ascii_unit (take l.unit-index l.units)
