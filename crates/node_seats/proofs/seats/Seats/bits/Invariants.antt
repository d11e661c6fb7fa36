use Rattle.node_seats.specs.Seating.{is_here_at}
use Rattle.node_seats.proofs.SeatBits.{AreToldTo}
use Rattle.node_seats.proofs.seats.Seats.bits.Given as goal

abbrev pub invariant-loop-number : goal.invariant-loop-number
invariant-loop-number l = AreToldTo (is_here_at l.self.seats.items) l.number l.bits
