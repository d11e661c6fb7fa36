-- Frames and arrivals as they are kept: rows of bytes under marks.
use Rattle.std.specs.Prelude.{ℕ, List, map}
use Rattle.dealer_world.specs.declared.frames.Way.{Way}
use Rattle.dealer_world.specs.Records.{Frame}
use Rattle.dealer_world.specs.Rows.{Row}

-- frames in order, and for how many more frames and bytes there is room
pub record Kept : Type 0 where
  pub frames : List Frame
  pub frame_room : ℕ
  pub byte_room : ℕ

-- the frame of a row
abbrev pub frame_of : Row Way → Frame
frame_of row = record { from = row.mark.from; to = row.mark.to; bytes = row.text }

abbrev pub frames_of : List (Row Way) → List Frame
frames_of rows = map frame_of rows
