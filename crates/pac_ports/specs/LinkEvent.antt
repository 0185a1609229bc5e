-- An event of a link in memory, as contracts see it.
use Rattle.std.specs.Prelude.{◌<◌, ◌≤◌, length}
use Rattle.pac_ports.specs.declared.memory_link.LinkEvent.{LinkEvent}
use Rattle.pac_ports.specs.declared.memory_link.LinkEvent.TheVariants as event
use Rattle.pac_ports.specs.declared.coming.Coming.{Coming}
use Rattle.pac_ports.specs.declared.coming.Coming.TheVariants as coming

-- as it is to come
abbrev pub coming_of : LinkEvent → Coming
coming_of (event.Datagram octets) = coming.Datagram octets.items
coming_of event.Tick = coming.Tick
coming_of (event.Piece octets) = coming.Piece octets.items
coming_of event.StreamEnd = coming.StreamEnd

-- a datagram has at most 512 octets, and a piece isn't empty
abbrev pub CanCome : LinkEvent → Type 0
CanCome (event.Datagram octets) = length octets.items ≤ 512
CanCome event.Tick = Unit {0}
CanCome (event.Piece octets) = 0 < length octets.items
CanCome event.StreamEnd = Unit {0}
