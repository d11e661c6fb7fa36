-- Frames by their bytes.
use Rattle.std.specs.Prelude.{ℕ, List}
use Rattle.peer_codes.specs.declared.frame.Frame.{Frame}

-- the frame of these bytes
abbrev pub frame_of : List ℕ → Frame
frame_of bytes = record { bytes = record { items = bytes } }
