-- Arrivals as they are kept: rows of bytes under marks.
use Rattle.std.specs.Prelude.{ℕ, List, map}
use Rattle.dealer_world.specs.declared.arrivals.What.{What}
use Rattle.dealer_world.specs.declared.arrivals.What.TheVariants as what
use Rattle.dealer_world.specs.declared.arrivals.Came.{Came as Mark}
use Rattle.dealer_world.specs.Records.{Arrived, Delivered, Came, Connected, Dropped, Ordered, Arrival}
use Rattle.dealer_world.specs.Rows.{Row}

-- arrivals in order, and for how many more arrivals and bytes there is room
pub record Kept : Type 0 where
  pub arrivals : List Arrival
  pub arrival_room : ℕ
  pub byte_room : ℕ

-- what arrived, with these bytes; a connection, a drop and an order have none
abbrev pub arrived_of : What → List ℕ → Arrived
arrived_of (what.Frame from to) bytes = Delivered (record { from = from; to = to; bytes = bytes })
arrived_of (what.Line node seat) bytes = Came node seat bytes
arrived_of (what.Connect node seat) bytes = Connected node seat
arrived_of (what.Drop node seat) bytes = Dropped node seat
arrived_of (what.Away node front) bytes = Ordered node front

-- and how many frames had been sent before it
abbrev pub arrival_of : What → ℕ → List ℕ → Arrival
arrival_of kind sent_before bytes = record { what = arrived_of kind bytes; sent_before = sent_before }

-- the arrival of a row
abbrev pub arrival_in : Row Mark → Arrival
arrival_in row = arrival_of row.mark.what row.mark.sent_before row.text

abbrev pub arrivals_of : List (Row Mark) → List Arrival
arrivals_of rows = map arrival_in rows
