use Rattle.node_wires.specs.declared.line.Line.TheVariants.{Seat}
use Rattle.node_seats.proofs.Writing.{rests_closed}
use Rattle.node_seats.proofs.seat.Seat.leave.Goals as goal

pub returns-clause-rests : goal.returns-clause-rests
returns-clause-rests g c = rests_closed (Seat c.args.number) _ _ c.close.ensures
