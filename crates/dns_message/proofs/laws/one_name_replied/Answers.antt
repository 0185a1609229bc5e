use Rattle.dns_message.proofs.QueryLaws.{one_name_law}
use Rattle.dns_message.proofs.laws.one_name_replied.Goals as goal

pub returns : goal.returns
returns c = one_name_law
