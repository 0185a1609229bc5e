use Rattle.dns_stream.proofs.FrameLaws.{written_law}
use Rattle.dns_stream.proofs.laws.written_frames_are_read.Goals as goal

pub returns : goal.returns
returns c = written_law
