use Rattle.std.proofs.Common.{ℕ, ◌<◌, sym, subst, arith}
use Rattle.stations.specs.Looking.{look_of}
use Rattle.node_seats.specs.Seating.{bot_at, waits_at}
use Rattle.node_service.specs.declared.local_node.LocalNode.{LocalNode}
use Rattle.node_service.specs.Bots.{IsServedAt, AreServed}
use Rattle.node_service.proofs.Keeping.{kept_on}
use Rattle.node_service.proofs.Owing.{served_next, all_served}
use Rattle.node_service.proofs.desk.Desk.tell_seats.Goals as goal

pub loop-seat-preserved : goal.loop-seat-preserved
loop-seat-preserved g c =
    let look = look_of c.args.self.now.member.station in
    let seat = c.loop-seat.seat in
    let old = c.loop-seat.self.seats.seats.items in
    let new = c.tell_seat.new.self.seats.seats.items in
    let here : IsServedAt look seat (bot_at new seat) (waits_at new seat) =
    subst (λ (m : LocalNode g.row.D.Denot g.D.Disk). IsServedAt (look_of m.station) seat (bot_at new seat) (waits_at new seat)) c.loop-seat.invariant.kept.member c.tell_seat.ensures.served in
    record {
      kept = kept_on g.W.Wire c.loop-seat.invariant.kept c.tell_seat.ensures.kept;
      served = served_next look seat old new c.loop-seat.invariant.served c.tell_seat.ensures.others here;
    }

pub returns-clause-served : goal.returns-clause-served
returns-clause-served g c =
    let seats = c.loop-seat.self.seats.seats.items in
    let count = c.players-seat-end.result in
    let served : (seat : ℕ) → seat < count → IsServedAt (look_of c.args.self.now.member.station) seat (bot_at seats seat) (waits_at seats seat) =
    λ seat within. c.loop-seat.invariant.served seat (omega arith) in
    subst (λ (m : LocalNode g.row.D.Denot g.D.Disk). AreServed (look_of m.station) seats) (sym c.loop-seat.invariant.kept.member)
    (all_served (look_of c.args.self.now.member.station) count seats served c.players-seat-end.ensures.all)
