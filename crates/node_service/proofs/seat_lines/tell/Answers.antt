use Rattle.stations.specs.Looking.{look_of}
use Rattle.node_service.specs.Bots.{HadTableSince}
use Rattle.node_service.proofs.Apartness.{told_off}
use Rattle.node_service.proofs.Bots.{had_now, bots_told}
use Rattle.node_service.proofs.seat_lines.tell.Goals as goal

pub returns-clause-bots : goal.returns-clause-bots
returns-clause-bots g c =
    let look = look_of c.args.member.now.station in
    let table = c.table.result.now in
    let seats = c.args.seats.now.seats.items in
    let had : HadTableSince look.moments look table = had_now c.args.member.now.station c.station.result.now c.node.result.now table c.station.ensures c.limits.ensures c.node.ensures c.table.ensures.now in
    bots_told look table c.args.seat seats c.tell.new.self.seats.items had c.tell.ensures.tells c.tell.ensures.says

pub returns-clause-waits : goal.returns-clause-waits
returns-clause-waits g c = told_off c.table.result.now c.args.seat c.args.seats.now.seats.items c.tell.new.self.seats.items c.tell.ensures.tells c.tell.ensures.says
