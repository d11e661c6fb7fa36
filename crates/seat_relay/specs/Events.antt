-- What happened to a relay, event by event, for clauses alone.
use Rattle.seat_relay.specs.Relaying.{with_place, Event, Begins, Ends, Tells, Closes, Says, Pushes}
use Rattle.seat_relay.specs.declared.events.Happening.{Happening}
use Rattle.seat_relay.specs.declared.events.Happening.TheVariants as happening

-- what is put down of what a method does
abbrev pub event_of : Happening → Event
event_of (happening.Begins node) = Begins node
event_of (happening.Ends node) = Ends node
event_of (happening.Tells node text place) = Tells node (with_place text.now place)
event_of (happening.Closes node) = Closes node
event_of (happening.Says text) = Says text.now
event_of (happening.Pushes node) = Pushes node
