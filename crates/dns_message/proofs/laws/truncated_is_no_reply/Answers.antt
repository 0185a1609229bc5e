use Rattle.dns_message.proofs.CutResponses.{no_reply}
use Rattle.dns_message.proofs.laws.truncated_is_no_reply.Goals as goal

pub returns : goal.returns
returns c = no_reply
