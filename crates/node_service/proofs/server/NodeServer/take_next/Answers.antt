use Rattle.std.specs.Prelude.{Some}
use Rattle.node_service.specs.Turns.{AreFrames}
use Rattle.node_service.proofs.Going.{frame_does, next_taken, nothing_taken}
use Rattle.node_service.proofs.Telling.{no_seat_told}
use Rattle.node_service.proofs.Turns.{no_frames}
use Rattle.node_service.proofs.server.NodeServer.take_next.Goals as goal

pub returns-in-Some-next_of_peers : goal.returns-in-Some-next_of_peers
returns-in-Some-next_of_peers g c =
    next_taken c.take_notice.result (no_seat_told (Some c.in-Some-next_of_peers.notice)) c.in-Some-next_of_peers.ensures.takes c.take_notice.ensures.goes c.take_notice.ensures.stops

pub returns-in-None : goal.returns-in-None
returns-in-None g c = nothing_taken AreFrames no_frames c.in-None.ensures.takes

pub returns-in-Some : goal.returns-in-Some
returns-in-Some g c = frame_does c.leave.ensures
