-- What came of seats and of peers, and what of it a node was given.
use Rattle.std.specs.Prelude.{ℕ, List, [], ◌∷◌, ◌++◌}
use Rattle.node_wires.specs.Passages.{Passage, Began, Came as PieceCame}
use Rattle.node_wires.specs.declared.line.Line.TheVariants.{Seat, Peer}
use Rattle.node_seats.specs.declared.seat_notice.SeatNotice.{SeatNotice}
use Rattle.node_seats.specs.declared.seat_notice.SeatNotice.TheVariants as notices
use Rattle.dealer_world.specs.Records.{Arrived, Delivered, Came, Connected, Dropped, Ordered}
use Rattle.dealer_world.specs.declared.event.Event.{Event}
use Rattle.dealer_world.specs.declared.event.Event.TheVariants as event
use Rattle.stations.specs.Deeds.{Deed}

-- what passed over the line of a seat: a bot that was taken in, or a piece; or what was told of a peer: a frame, or that it is there and its life is to be kept
pub data Incoming : Type 0 where
  OfSeat : (passage : Passage) → Incoming
  OfPeer : (from : ℕ) (frame : List ℕ) → Incoming
  OfJoined : (peer : ℕ) → Incoming

-- what of this passed over the lines of seats
abbrev pub seats_of : List Incoming → List Passage
seats_of [] = []
seats_of (OfSeat passage ∷ more) = passage ∷ seats_of more
seats_of (OfPeer from frame ∷ more) = seats_of more
seats_of (OfJoined peer ∷ more) = seats_of more

-- and what was told of peers, as they put it down
abbrev pub peers_of : List Incoming → List Passage
peers_of [] = []
peers_of (OfSeat passage ∷ more) = peers_of more
peers_of (OfPeer from frame ∷ more) = PieceCame (Peer from) frame ∷ peers_of more
peers_of (OfJoined peer ∷ more) = Began (Peer peer) ∷ peers_of more

-- ---- what a node was given

-- a frame that was told of a peer; a seat's bytes that came over its line; and a seat connects where a bot was taken in at it
abbrev pub incoming_in : List Arrived → List Incoming
incoming_in [] = []
incoming_in (Delivered frame ∷ more) = OfPeer frame.from frame.bytes ∷ incoming_in more
incoming_in (Came node seat bytes ∷ more) = OfSeat (PieceCame (Seat seat) bytes) ∷ incoming_in more
incoming_in (Connected node seat ∷ more) = OfSeat (Began (Seat seat)) ∷ incoming_in more
incoming_in (Dropped node seat ∷ more) = incoming_in more
incoming_in (Ordered node front ∷ more) = incoming_in more

-- what came so by all these deeds, of which the newest stands first
abbrev pub came_by : List Deed → List Incoming
came_by [] = []
came_by (deed ∷ before) = came_by before ++ incoming_in deed.arrived

-- what an event is made of
abbrev pub taken_for : Event → List Incoming
taken_for (event.Frame from to bytes) = OfPeer from bytes.items ∷ []
taken_for (event.Line node seat bytes) = OfSeat (PieceCame (Seat seat) bytes.items) ∷ []
taken_for (event.Connect node seat) = OfSeat (Began (Seat seat)) ∷ []
taken_for (event.Tick node) = []
taken_for (event.Away node) = []
taken_for (event.Drop node seat) = []
taken_for (event.Stop node pick) = []
taken_for (event.Start node) = []

-- what a notice of a seat tells
abbrev pub incoming_of : SeatNotice → List Incoming
incoming_of (notices.Came seat) = OfSeat (Began (Seat seat)) ∷ []
incoming_of (notices.Piece seat bytes) = OfSeat (PieceCame (Seat seat) bytes.items) ∷ []
incoming_of other = []
