use Rattle.std.proofs.Common.{arith}
use Rattle.std.proofs.lemmas.Bool.Decides.{nat_tests}
use Rattle.js_frames.proofs.Rooms.{room-is}
use Rattle.js_frames.proofs.frames.Frames.is_full_within.Goals as goal

pub returns : goal.returns
returns c = grind (arith, nat_tests, room-is c.args.self.now)
