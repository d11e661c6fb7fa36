use Rattle.std.proofs.Common.{sym, ◌∙◌}
use Rattle.stations.specs.Looking.{look_of}
use Rattle.node_seats.specs.Seating.{bot_at, waits_at}
use Rattle.node_service.proofs.Apartness.{waits_off}
use Rattle.node_service.proofs.Bots.{bots_put_off}
use Rattle.node_service.proofs.Owing.{served_parted}
use Rattle.node_service.proofs.seat_lines.put_off.Goals as goal

pub returns-then-has_resumed-clause-bots : goal.returns-then-has_resumed-clause-bots
returns-then-has_resumed-clause-bots g c = bots_put_off (look_of c.args.member.now.station) c.args.seat c.args.seats.now.seats.items c.part.new.self.seats.items c.part.ensures.parts c.part.ensures.says

pub returns-then-has_resumed-clause-served : goal.returns-then-has_resumed-clause-served
returns-then-has_resumed-clause-served g c = λ done.
    let seat = c.args.seat in
    let new = c.part.new.self.seats.items in
    served_parted (look_of c.args.member.now.station) seat (bot_at new seat) (waits_at new seat)
    (λ sits. c.part.ensures.parted done (sym c.part.ensures.says.here.sits ∙ sits) (sym c.has_resumed.ensures ∙ c.if-has_resumed.true))

pub returns-then-has_resumed-clause-waits : goal.returns-then-has_resumed-clause-waits
returns-then-has_resumed-clause-waits g c = waits_off c.args.seat c.args.seats.now.seats.items c.part.new.self.seats.items c.part.ensures.says
