use Rattle.node_seats.proofs.Coming.{plain_comes, bot_comes}
use Rattle.node_seats.proofs.seats.Seats.look_at_seat.Goals as goal

pub returns-in-None-clause-passes : goal.returns-in-None-clause-passes
returns-in-None-clause-passes g c = plain_comes c.args.self.now.guests _ _ _ c.in-None.is c.next_piece.ensures.passed

pub returns-in-None-2-clause-passes : goal.returns-in-None-2-clause-passes
returns-in-None-2-clause-passes g c = plain_comes c.args.self.now.guests _ _ _ c.in-None-2.is c.next.ensures.passed

pub returns-in-Some-clause-passes : goal.returns-in-Some-clause-passes
returns-in-Some-clause-passes g c =
    bot_comes c.args.self.now.guests c.in-Some.field-0 _ _ _ c.in-Some.is c.next_piece-in-Some.ensures.nobody c.next_piece-in-Some.ensures.passed
