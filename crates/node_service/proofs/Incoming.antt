-- What is taken of a seat.
use Rattle.std.proofs.Common.{◌≡◌, List, [], refl}
use Rattle.std.specs.Prelude.{Option, Some, None}
use Rattle.node_wires.specs.Passages.{Passage, seats_in}
use Rattle.node_seats.specs.declared.seat_notice.SeatNotice.{SeatNotice}
use Rattle.node_seats.specs.declared.seat_notice.SeatNotice.TheVariants as notices
use Rattle.node_seats.specs.Passing.{passed_by}
use Rattle.node_links.specs.declared.own.Own.{Own}
use Rattle.node_service.specs.Crossing.{AreHeard}
use Rattle.node_service.specs.Arriving.{seats_of, peers_of}
use Rattle.node_service.specs.Telling.{incoming_by}

-- what passed over the lines of seats is what came of them
pub passed_is_incoming : (notice : Option SeatNotice) → seats_in (passed_by notice) ≡ seats_of (incoming_by notice)
passed_is_incoming None = refl
passed_is_incoming (Some (notices.Came seat)) = refl
passed_is_incoming (Some other) = refl

pub no_peer_told : (notice : Option SeatNotice) → peers_of (incoming_by notice) ≡ []
no_peer_told None = refl
no_peer_told (Some (notices.Came seat)) = refl
no_peer_told (Some other) = refl

pub none_of_peers : (own : Own) (lines : List Passage) (notice : Option SeatNotice) → AreHeard own lines (incoming_by notice)
none_of_peers own lines None = tt
none_of_peers own lines (Some (notices.Came seat)) = (tt, tt)
none_of_peers own lines (Some (notices.Piece seat bytes)) = (tt, tt)
none_of_peers own lines (Some other) = tt
