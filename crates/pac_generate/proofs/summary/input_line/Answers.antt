use Rattle.std.specs.Prelude.{codes, string_bytes}
use Rattle.std.specs.Fmt.{decimal}
use Rattle.pac_generate.proofs.Pieces.{five_pieces, told_as}
use Rattle.pac_generate.proofs.summary.input_line.Goals as goal

pub returns : goal.returns
returns c = told_as string_bytes c.format.result _ _ (five_pieces (codes "seed ") (decimal c.args.summary.seed) (codes " sites ") (decimal c.args.summary.sites) (codes "\n")) c.format.ensures.ok
