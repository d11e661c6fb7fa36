-- How a record grows by one call, and a cluster by one event.
use Rattle.std.specs.Prelude.{ℕ, Bool, if◌then◌else◌, List, [], ◌∷◌, ◌++◌, map, length}
use Rattle.dealer_world.specs.Records.{Record, Arrived, Arrival, Start, Piece, start_count, last_start}
use Rattle.dealer_world.specs.Calls.{Text, Made}

-- what arrived, with the count of frames before it
abbrev pub placed_at : ℕ → Arrived → Arrival
placed_at count what = record { what = what; sent_before = count }

-- a text, as what the node showed within this start
abbrev pub piece_of : ℕ → ℕ → Text → Piece
piece_of node start text = record { node = node; start = start; reader = text.reader; text = text.text }

-- a start begins the next log of its node
abbrev pub starts_after : List Start → ℕ → Bool → List Start
starts_after starts i began = if began then starts ++ (record { node = i; start = start_count starts i }) ∷ [] else starts

-- the record after a call of node i: what arrived comes with the count of frames before the call, and what is shown belongs to the node's last start
abbrev pub grown : Record → ℕ → List Arrived → Made → Record
grown old i arrived made = record {
  sent = old.sent ++ made.frames;
  delivered = old.delivered ++ map (placed_at (length old.sent)) arrived;
  starts = starts_after old.starts i made.began;
  shown = old.shown ++ map (piece_of i (last_start (starts_after old.starts i made.began) i)) made.texts;
}
