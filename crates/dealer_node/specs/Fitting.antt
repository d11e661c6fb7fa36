-- Frames that are read back as what they say.
use Rattle.std.specs.Prelude.{List}
use Rattle.paxos_wire.specs.Fits.{IsMessage}
use Rattle.protocol_model.specs.Sets.{In}
use Rattle.node_rules.specs.Sending.{Frame}

-- each frame's message has a frame
abbrev pub AreMessages : List Frame → Type 0
AreMessages frames = (one : Frame) → In one frames → IsMessage one.message
