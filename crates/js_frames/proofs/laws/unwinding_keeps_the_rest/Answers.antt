use Rattle.js_frames.proofs.Passing.{unwound-keeps}
use Rattle.js_frames.proofs.laws.unwinding_keeps_the_rest.Goals as goal

pub returns : goal.returns
returns c = unwound-keeps
