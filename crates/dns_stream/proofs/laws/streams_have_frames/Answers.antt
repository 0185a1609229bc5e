use Rattle.dns_stream.proofs.FrameLaws.{stream_law}
use Rattle.dns_stream.proofs.laws.streams_have_frames.Goals as goal

pub returns : goal.returns
returns c = stream_law
