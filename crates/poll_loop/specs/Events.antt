-- Events of the code, as contracts see them.
use Rattle.poll_log.specs.Turns as log
use Rattle.poll_loop.specs.declared.event.Event.{Event}
use Rattle.poll_loop.specs.declared.event.Event.TheVariants as event

abbrev pub event_of : Event → log.Event
event_of (event.Datagram octets) = log.Given octets.now
event_of event.Tick = log.Tick
