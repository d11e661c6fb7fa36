use Rattle.node_service.specs.Turns.{AreRead, ComeOfSeatsBut, IsTurnBut}
use Rattle.node_service.proofs.Going.{with_on, with_so}
use Rattle.node_service.proofs.Turns.{then_seats_but, peers_but}
use Rattle.node_service.proofs.server.NodeServer.take_all.Goals as goal

pub returns-then-not-is_read : goal.returns-then-not-is_read
returns-then-not-is_read g c =
    let read = c.take_all_of_peers-is_read.result in
    with_so (AreRead read) (IsTurnBut c.args.closed read) (peers_but c.args.closed read) c.take_all_of_peers-is_read.ensures

pub returns : goal.returns
returns g c =
    let read = c.take_all_of_peers-is_read.result in
    with_on (AreRead read) (ComeOfSeatsBut c.args.closed) (IsTurnBut c.args.closed read) (then_seats_but c.args.closed read) c.take_all_of_peers-is_read.ensures c.take_all_of_seats.ensures
