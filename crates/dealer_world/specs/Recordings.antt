-- The record of a cluster as it is kept: the rows that were put away, and behind them what the last call made.
use Rattle.std.specs.Prelude.{ℕ, Bool, List, ◌++◌, map, Option, Some, None}
use Rattle.dealer_node.specs.Texts.{Marked}
use Rattle.dealer_node.specs.Outs.{Told}
use Rattle.dealer_node.specs.declared.reader.Reader.{Reader}
use Rattle.dealer_world.specs.declared.begun.Begun.{Begun}
use Rattle.dealer_world.specs.Records.{Record, Frame, Arrival, Start, Piece}
use Rattle.dealer_world.specs.Calls.{Text, Made}
use Rattle.dealer_world.specs.Views.{piece_of}
use Rattle.dealer_world.specs.KeptShown.{reader_by}

-- a frame that a node made
abbrev pub frame_by : ℕ → Marked ℕ → Frame
frame_by node outgoing = record { from = node; to = outgoing.mark; bytes = outgoing.text }

-- a text that it showed
abbrev pub text_by : Marked Reader → Text
text_by shown = record { reader = reader_by shown.mark; text = shown.text }

-- what a call of a node made
abbrev pub made_by : ℕ → Told → Bool → Made
made_by node told began = record { frames = map (frame_by node) told.frames; texts = map text_by told.shown; began = began }

abbrev pub start_by : Begun → Start
start_by begun = record { node = begun.node; start = begun.start }

-- what was put away, and what the last call made, if that wasn't put away yet
abbrev pub whole : List Frame → List Arrival → List Begun → List Piece → Told → Option Begun → Record
whole frames arrivals starts pieces last None = record { sent = frames; delivered = arrivals; starts = map start_by starts; shown = pieces }
whole frames arrivals starts pieces last (Some at) = record {
  sent = frames ++ map (frame_by at.node) last.frames;
  delivered = arrivals;
  starts = map start_by starts;
  shown = pieces ++ map (piece_of at.node at.start) (map text_by last.shown);
}

-- the record, what the last call made, whether that was put away, and for how many more arrivals, their bytes and starts there is room
pub record Recorded : Type 0 where
  pub all : Record
  pub last : Told
  pub is_settled : Bool
  pub arrival_room : ℕ
  pub byte_room : ℕ
  pub start_room : ℕ
