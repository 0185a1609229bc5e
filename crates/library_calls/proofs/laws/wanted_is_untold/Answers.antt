use Rattle.library_calls.proofs.Wanting.{wanted_is_untold as law}
use Rattle.library_calls.proofs.laws.wanted_is_untold.Goals as goal

pub returns : goal.returns
returns c = law
