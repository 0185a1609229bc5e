-- A list of moves, as contracts see it.
use Rattle.std.specs.Prelude.{List}
use Rattle.pac_ports.specs.declared.link.Move.{Move}
use Rattle.pac_ports.specs.declared.move_list.MoveList.{MoveList}

-- the moves, in order
abbrev pub moves : MoveList → List Move
moves l = l.moves.items
