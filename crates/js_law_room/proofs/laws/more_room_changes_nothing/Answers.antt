use Rattle.js_law_room.proofs.Room.{more_room}
use Rattle.js_law_room.proofs.laws.more_room_changes_nothing.Goals as goal

pub returns : goal.returns
returns c = more_room
