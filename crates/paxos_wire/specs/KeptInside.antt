-- What the fields of a message that is kept keep: a frame, which is read as the message.
use Rattle.std.specs.Prelude.{ℕ, List, Result, Ok, Err, IsOk}
use Rattle.paxos_wire.specs.declared.fault.FrameFault.{FrameFault}
use Rattle.paxos_wire.specs.declared.message.Message.{Message}
use Rattle.paxos_wire.specs.declared.message.Message.TheVariants.{Ask}
use Rattle.paxos_wire.specs.declared.kept_message.KeptMessage.TheInside.{Inside}
use Rattle.paxos_wire.specs.Faults.{reading}

-- what was read, and anything where nothing was
abbrev pub message_of : Result Message FrameFault → Message
message_of (Ok message) = message
message_of (Err fault) = Ask 0

-- the frame is one of a message
abbrev pub IsKept : Inside → Type 0
IsKept m = IsOk (reading m.frame.items)

-- the message of the frame
abbrev pub message_in : Inside → Message
message_in m = message_of (reading m.frame.items)
