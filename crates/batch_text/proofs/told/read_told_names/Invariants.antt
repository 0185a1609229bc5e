use Rattle.std.proofs.Common.{◌≡◌, Ok, map}
use Rattle.batch_text.specs.Names.{NamesRead, line_of}
use Rattle.batch_text.specs.Told.{told_in}
use Rattle.batch_text.proofs.Telling.{told_behind}
use Rattle.batch_text.proofs.told.read_told_names.Given as goal

-- what is left to tell of the others makes the names whole
abbrev pub invariant-loop-line : goal.invariant-loop-line
invariant-loop-line l = told_in l.fn.bytes ≡ Ok (told_behind l.table (map line_of l.line-iterator))
