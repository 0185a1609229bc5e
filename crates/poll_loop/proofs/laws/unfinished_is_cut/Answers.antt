use Rattle.poll_loop.proofs.Kept.{memory_cut}
use Rattle.poll_loop.proofs.laws.unfinished_is_cut.Goals as goal

pub returns : goal.returns
returns c = memory_cut
