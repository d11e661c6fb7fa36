use Rattle.std.proofs.Common.{◌<◌, length, slice_set, arith, Some, subst, sym}
use Rattle.std.proofs.lemmas.Grind.{common_steps}
use Rattle.node_wires.specs.declared.line.Line.TheVariants.{Seat as SeatOf}
use Rattle.node_seats.specs.declared.seat_notice.SeatNotice.{SeatNotice}
use Rattle.node_seats.specs.Telling.{Loses}
use Rattle.node_seats.proofs.Telling.{loses_it}
use Rattle.node_seats.proofs.seats.Seats.flush_one.Goals as goal

pub returns-then-not-flush-clause-loses : goal.returns-then-not-flush-clause-loses
returns-then-not-flush-clause-loses g c =
    let within : c.args.number < length c.args.self.now.seats.items = grind (arith, common_steps) in
    subst (λ (n : SeatNotice). Loses (Some n) c.args.self.now.seats.items (slice_set c.args.self.now.seats.items c.args.number c.leave.new.self) (g.W.Wire.passed c.args.wire.now) (g.W.Wire.passed c.leave.new.wire)) (sym c.leave.ensures.gone)
    (loses_it c.args.number c.args.self.now.seats.items c.in_ok-seat.seat.now c.leave.new.self c.flush.new.self.waiting.waiting (g.W.Wire.passed c.args.wire.now) (g.W.Wire.passed c.flush.new.wire) (g.W.Wire.passed c.leave.new.wire)
    within c.in_ok-seat.ensures.value c.flush.ensures.wrote (c.leave.ensures.rests.wrote (SeatOf c.args.number)) c.leave.ensures.waiting)
