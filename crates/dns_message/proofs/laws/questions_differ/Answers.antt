use Rattle.dns_message.proofs.QueryLaws.{questions_differ_law}
use Rattle.dns_message.proofs.laws.questions_differ.Goals as goal

pub returns : goal.returns
returns c = questions_differ_law
