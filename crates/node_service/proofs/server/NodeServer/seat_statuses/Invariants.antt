use Rattle.std.proofs.Common.{◌≡◌, map, take}
use Rattle.node_status.specs.declared.status.SeatStatus.{SeatStatus}
use Rattle.node_service.proofs.server.NodeServer.seat_statuses.Given as goal

abbrev pub invariant-loop-name : goal.invariant-loop-name
invariant-loop-name g l = map (λ (seat : SeatStatus). seat.name) l.statuses.items ≡ take l.name-index l.name-items
