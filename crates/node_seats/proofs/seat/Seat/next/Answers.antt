use Rattle.std.proofs.Common.{length}
use Rattle.node_seats.proofs.seat.Seat.next.Goals as goal

pub returns-else-self-clause-piece : goal.returns-else-self-clause-piece
returns-else-self-clause-piece g c = c.take_in.ensures.piece c.args.number (length c.args.buffer.now)
