use Rattle.std.proofs.Common.{◌≡◌, List}
use Rattle.node_wires.specs.Passages.{Passage}
use Rattle.node_seats.specs.Telling.{AreSaid}
use Rattle.stations.specs.Looking.{look_of}
use Rattle.node_service.specs.Apartness.{PutsOff}
use Rattle.node_service.specs.Bots.{KeepBots}
use Rattle.node_service.specs.Seated.{SatBefore}
use Rattle.node_service.proofs.seat_lines.tell_all.Given as goal

abbrev pub invariant-loop-seat : goal.invariant-loop-seat
invariant-loop-seat g l = record {
  bots : KeepBots (look_of l.member.station) (look_of l.member.station) l.initial.seats.seats.items l.seats.seats.items;
  said : (passed : List Passage) → AreSaid passed l.initial.seats.seats.items → AreSaid passed l.seats.seats.items;
  waits : PutsOff l.is_apart l.initial.seats.seats.items l.seats.seats.items;
  sat : SatBefore l.initial.seats.seats.items l.seats.seats.items;
  guests : l.seats.guests ≡ l.initial.seats.guests;
}
