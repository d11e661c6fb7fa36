-- What notices of peers tell.
use Rattle.std.specs.Prelude.{List, [], ◌∷◌, Option, Some, None}
use Rattle.node_peers.specs.declared.notice.Notice.{Notice}
use Rattle.node_peers.specs.declared.notice.Notice.TheVariants as notices
use Rattle.node_seats.specs.declared.seat_notice.SeatNotice.{SeatNotice}
use Rattle.node_service.specs.Arriving.{Incoming, OfPeer, OfJoined, incoming_of}

-- the frame that a notice of a peer tells, if it tells one, or that a peer is there whose life is to be kept
abbrev pub told_of : Notice → List Incoming
told_of (notices.Frame from frame) = OfPeer from frame.bytes.items ∷ []
told_of (notices.Joined peer (Some life)) = OfJoined peer ∷ []
told_of (notices.Joined peer None) = []
told_of (notices.Gone peer) = []
told_of (notices.Refused peer fault source) = []
told_of (notices.Strangers peer count fault) = []
told_of (notices.Settings peer settings) = []
told_of (notices.Unreached peer refuses) = []

abbrev pub told_by : Option Notice → List Incoming
told_by None = []
told_by (Some notice) = told_of notice

abbrev pub incoming_by : Option SeatNotice → List Incoming
incoming_by None = []
incoming_by (Some notice) = incoming_of notice
