use Rattle.js_frames.proofs.Passing.{unwound-closes}
use Rattle.js_frames.proofs.laws.unwinding_closes.Goals as goal

pub returns : goal.returns
returns c = unwound-closes
