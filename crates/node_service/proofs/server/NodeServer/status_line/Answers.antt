use Rattle.std.proofs.Common.{List, map, ap, ◌∙◌}
use Rattle.node_status.specs.declared.status.SeatStatus.{SeatStatus}
use Rattle.node_service.specs.Serving.{look_in}
use Rattle.node_service.proofs.Asking.{is_status}
use Rattle.node_service.proofs.server.NodeServer.status_line.Goals as goal

pub returns : goal.returns
returns g c =
    let server = c.args.self.now in
    is_status (look_in server)
    (record {
      node = c.number.result;
      front = server.watch.seen.front;
      hand = c.checked_sub.result;
      over = server.watch.seen.over;
      replaying = server.replays;
      promised = c.promised.result;
      leads = c.leads.result;
      quorum = server.turn_timer.is_quorate;
      peers = c.deref.result;
      seats = c.deref-2.result;
      pending = server.watch.seen.act_waits;
      commands = server.rate.last;
    })
    c.in_ok-line.line.items c.number.ensures
    (ap (λ (seats : List SeatStatus). map (λ (seat : SeatStatus). seat.name) seats) c.deref-2.ensures.value ∙ c.in_ok-seats.ensures) c.in_ok-line.ensures
