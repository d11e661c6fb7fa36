use Rattle.node_seats.proofs.Crowding.{nobody_counted}
use Rattle.node_seats.proofs.seats.Seats.take_caller.Goals as goal

pub returns-in_default-clause-crowds : goal.returns-in_default-clause-crowds
returns-in_default-clause-crowds g c = nobody_counted c.nobody_called.result.turned_away c.nobody_called.result.made_room c.args.seat c.args.now c.args.self.now.crowds c.nobody_called.ensures.away c.nobody_called.ensures.room
