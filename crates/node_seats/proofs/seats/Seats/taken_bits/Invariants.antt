use Rattle.node_seats.specs.Seating.{sits_at}
use Rattle.node_seats.proofs.SeatBits.{AreToldTo}
use Rattle.node_seats.proofs.seats.Seats.taken_bits.Given as goal

abbrev pub invariant-loop-number : goal.invariant-loop-number
invariant-loop-number l = AreToldTo (sits_at l.self.seats.items) l.number l.bits
