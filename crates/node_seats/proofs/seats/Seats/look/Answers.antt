use Rattle.node_seats.specs.declared.limits.TheConstants.{PIECE}
use Rattle.node_seats.proofs.seats.Seats.look.Goals as goal

pub returns-in-Some-clause-piece : goal.returns-in-Some-clause-piece
returns-in-Some-clause-piece g c = c.look_at_guest.ensures.piece c.args.at PIECE
