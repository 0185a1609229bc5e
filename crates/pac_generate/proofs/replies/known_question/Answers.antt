use Rattle.pac_generate.proofs.Asked.{asked_as}
use Rattle.pac_generate.proofs.replies.known_question.Goals as goal

pub returns : goal.returns
returns c = asked_as c.args._datagram.now c.args.id c.args.name c.ranges.id.fits c.bytes-kept.ensures.kept c.requires
