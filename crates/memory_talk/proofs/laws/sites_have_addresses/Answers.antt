use Rattle.memory_talk.proofs.Addresses.{sites_have as law}
use Rattle.memory_talk.proofs.laws.sites_have_addresses.Goals as goal

pub returns : goal.returns
returns c = law
