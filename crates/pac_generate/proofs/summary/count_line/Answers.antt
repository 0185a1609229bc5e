use Rattle.std.specs.Prelude.{codes, string_bytes}
use Rattle.std.specs.Fmt.{decimal}
use Rattle.pac_generate.proofs.Pieces.{seven_pieces, told_as}
use Rattle.pac_generate.proofs.summary.count_line.Goals as goal

pub returns : goal.returns
returns c = told_as string_bytes c.format.result _ _ (seven_pieces (codes "urls ") (decimal c.args.summary.urls) (codes " runs ") (decimal c.args.summary.runs) (codes " names ") (decimal c.args.summary.names) (codes "\n")) c.format.ensures.ok
