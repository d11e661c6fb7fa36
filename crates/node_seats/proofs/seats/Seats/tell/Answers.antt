use Rattle.std.proofs.Common.{◌<◌, length, arith}
use Rattle.std.proofs.lemmas.Grind.{common_steps}
use Rattle.node_seats.proofs.Telling.{said_there, said_still}
use Rattle.node_seats.proofs.seats.Seats.tell.Goals as goal

pub returns-then-not-seat-clause-said : goal.returns-then-not-seat-clause-said
returns-then-not-seat-clause-said c =
    let within : c.args.seat < length c.args.self.now.seats.items = grind (arith, common_steps) in
    said_still c.args.self.now.seats.items c.args.seat c.in-Some.seat.now within c.in-Some.ensures.value

pub returns-else-not-seat-clause-said : goal.returns-else-not-seat-clause-said
returns-else-not-seat-clause-said c =
    let within : c.args.seat < length c.args.self.now.seats.items = grind (arith, common_steps) in
    said_there c.args.self.now.seats.items c.args.seat c.in-Some.seat.now c.tell.new.self within c.in-Some.ensures.value c.tell.ensures.says
