use Rattle.std.proofs.Common.{◌<◌, length, arith}
use Rattle.std.proofs.lemmas.Grind.{common_steps}
use Rattle.node_seats.proofs.Telling.{said_there}
use Rattle.node_seats.proofs.seats.Seats.begin.Goals as goal

pub returns-in-Some-clause-said : goal.returns-in-Some-clause-said
returns-in-Some-clause-said c =
    let within : c.args.seat < length c.args.self.now.seats.items = grind (arith, common_steps) in
    said_there c.args.self.now.seats.items c.args.seat c.in-Some.seat.now c.begin.new.self within c.in-Some.ensures.value c.begin.ensures.says
