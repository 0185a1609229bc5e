use Rattle.js_law_room.proofs.Room.{no_limit}
use Rattle.js_law_room.proofs.laws.no_limit_is_met.Goals as goal

pub returns : goal.returns
returns c = no_limit
