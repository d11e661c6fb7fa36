-- What a connection tells where its caller's buffer takes the frame.
use Rattle.std.specs.Prelude.{Option, Some, None, Result, Ok, Err}
use Rattle.peer_codes.specs.declared.frame.Frame.{Frame}
use Rattle.node_links.specs.declared.peer_fault.PeerFault.{PeerFault}
use Rattle.node_links.specs.declared.heard.Heard.{Heard}
use Rattle.node_links.specs.declared.heard.Heard.TheVariants as heards
use Rattle.node_links.specs.declared.arrived.Arrived.{Arrived}
use Rattle.node_links.specs.declared.arrived.Arrived.TheVariants as arrivals

-- what is heard, where the buffer has this frame
abbrev pub heard_as : Arrived → Frame → Heard
heard_as (arrivals.Hello hello) frame = heards.Hello hello
heard_as (arrivals.Proved hello) frame = heards.Proved hello
heard_as arrivals.Frame frame = heards.Frame frame
heard_as (arrivals.Beat beat) frame = heards.Beat beat
heard_as (arrivals.Further further) frame = heards.Further further

abbrev pub told_as : Result Arrived PeerFault → Frame → Result Heard PeerFault
told_as (Err fault) frame = Err fault
told_as (Ok arrived) frame = Ok (heard_as arrived frame)

-- what is told, where the buffer has this frame
abbrev pub told : Option (Result Arrived PeerFault) → Frame → Option (Result Heard PeerFault)
told None frame = None
told (Some arrived) frame = Some (told_as arrived frame)
