-- What a connection tells where its caller's buffer takes the bytes.
use Rattle.std.specs.Prelude.{Option, Some, None, Result, Ok, Err}
use Rattle.peer_codes.specs.declared.connection_fault.ConnectionFault.{ConnectionFault}
use Rattle.peer_codes.specs.declared.frame.Frame.{Frame}
use Rattle.peer_codes.specs.declared.event.Event.{Event}
use Rattle.peer_codes.specs.declared.event.Event.TheVariants as events
use Rattle.peer_codes.specs.declared.lent.Lent.{Lent}
use Rattle.peer_codes.specs.declared.lent.Lent.TheVariants as lents

-- what came, where the buffer has these bytes
abbrev pub event_as : Lent → Frame → Event
event_as (lents.Greeted hello) frame = events.Greeted hello
event_as lents.Opened frame = events.Opened
event_as lents.Frame frame = events.Frame frame
event_as (lents.Beat beat) frame = events.Beat beat
event_as (lents.More kind) frame = events.More (record { kind = kind; bytes = frame.bytes })

abbrev pub told_as : Result Lent ConnectionFault → Frame → Result Event ConnectionFault
told_as (Err fault) frame = Err fault
told_as (Ok lent) frame = Ok (event_as lent frame)

-- what is told, where the buffer has these bytes
abbrev pub told : Option (Result Lent ConnectionFault) → Frame → Option (Result Event ConnectionFault)
told None frame = None
told (Some lent) frame = Some (told_as lent frame)
