use Rattle.stations.specs.Looking.{look_of}
use Rattle.node_seats.specs.Seating.{bot_at, waits_at}
use Rattle.node_service.proofs.Keeping.{kept_on}
use Rattle.node_service.proofs.Owing.{served_gone, others_on}
use Rattle.node_service.proofs.desk.Desk.tell_seat.Goals as goal

pub returns-then-not-tell_bot-clause-kept : goal.returns-then-not-tell_bot-clause-kept
returns-then-not-tell_bot-clause-kept g c = kept_on g.W.Wire c.tell_bot.ensures.kept c.hang_up.ensures.kept

pub returns-then-not-tell_bot-clause-served : goal.returns-then-not-tell_bot-clause-served
returns-then-not-tell_bot-clause-served g c =
    let seats = c.hang_up.new.self.seats.seats.items in
    served_gone (look_of c.args.self.now.member.station) c.args.seat (bot_at seats c.args.seat) (waits_at seats c.args.seat) c.hang_up.ensures.gone

pub returns-then-not-tell_bot-clause-others : goal.returns-then-not-tell_bot-clause-others
returns-then-not-tell_bot-clause-others g c =
    others_on c.args.seat c.args.self.now.seats.seats.items c.tell_bot.new.self.seats.seats.items c.hang_up.new.self.seats.seats.items c.tell_bot.ensures.others c.hang_up.ensures.others

pub returns-else-not-tell_bot-clause-served : goal.returns-else-not-tell_bot-clause-served
returns-else-not-tell_bot-clause-served g c = c.tell_bot.ensures.served c.if-not-tell_bot.false
