-- What a node sends, shows and tells.
use Rattle.std.specs.Prelude.{ℕ, ◌+◌, ◌≤◌, List, [], ◌++◌, length, vec_len, vec_capacity}
use Rattle.dealer_node.specs.declared.reader.Reader.{Reader}
use Rattle.dealer_node.specs.declared.seat_fault.SeatFault.{SeatFault}
use Rattle.dealer_node.specs.declared.made.Made.{Made}
use Rattle.dealer_node.specs.declared.made.Need.{Need}
use Rattle.dealer_node.specs.Texts.{Marked, byte_total}

-- frames, each with the node that it goes to; what is shown, in one order, each text with its reader; faults in what seats sent
pub record Told : Type 0 where
  pub frames : List (Marked ℕ)
  pub shown : List (Marked Reader)
  pub faults : List SeatFault

abbrev pub nothing_told : Told
nothing_told = record { frames = []; shown = []; faults = [] }

-- the one behind the other
abbrev pub both_told : Told → Told → Told
both_told earlier later = record { frames = earlier.frames ++ later.frames; shown = earlier.shown ++ later.shown; faults = earlier.faults ++ later.faults }

-- what was made so far
abbrev pub told_by : Made → Told
told_by made = record { frames = made.frames.texts; shown = made.shown.texts; faults = made.faults.items }

-- there is room for so much more
pub record HasRoom (made : Made) (need : Need) : Type 0 where
  pub frames : need.frames ≤ made.frames.text_room
  pub frame_bytes : need.frame_bytes ≤ made.frames.byte_room
  pub texts : need.texts ≤ made.shown.text_room
  pub text_bytes : need.text_bytes ≤ made.shown.byte_room
  pub faults : vec_len made.faults + need.faults ≤ vec_capacity made.faults

-- there is room for all that another has
pub record HasRoomFor (made other : Made) : Type 0 where
  pub frames : length other.frames.texts ≤ made.frames.text_room
  pub frame_bytes : byte_total other.frames.texts ≤ made.frames.byte_room
  pub texts : length other.shown.texts ≤ made.shown.text_room
  pub text_bytes : byte_total other.shown.texts ≤ made.shown.byte_room
  pub faults : vec_len made.faults + vec_len other.faults ≤ vec_capacity made.faults
