use Rattle.std.proofs.Common.{◌≡◌, [], length, map, take, get_or}
use Rattle.std.specs.List.{range_with_len}
use Rattle.matchstate.specs.View.{position_of}
use Rattle.match_log.proofs.seats.by_seat.Given as goal

abbrev pub invariant-loop-seat : goal.invariant-loop-seat
invariant-loop-seat l = record {
  places : length l.seats ≡ 10;
  so_far : take l.seat l.seats ≡ map (λ seat. get_or l.by_position (position_of l.players l.hand seat) []) (range_with_len 0 l.seat);
}
