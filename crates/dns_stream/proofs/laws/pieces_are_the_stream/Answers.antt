use Rattle.dns_stream.proofs.PieceLaws.{pieces_law}
use Rattle.dns_stream.proofs.laws.pieces_are_the_stream.Goals as goal

pub returns : goal.returns
returns c = pieces_law
