use Rattle.std.specs.Prelude.{codes, string_bytes}
use Rattle.std.specs.Fmt.{decimal}
use Rattle.pac_generate.proofs.Pieces.{seven_pieces, told_as}
use Rattle.pac_generate.proofs.summary.kind_line.Goals as goal

pub returns : goal.returns
returns c = told_as string_bytes c.format.result _ _ (seven_pieces (codes "direct ") (decimal c.args.kinds.direct) (codes " proxy ") (decimal c.args.kinds.proxy) (codes " socks ") (decimal c.args.kinds.socks) (codes "\n")) c.format.ensures.ok
