use Rattle.std.proofs.Common.{◌∙◌}
use Rattle.node_service.proofs.Apartness.{put_off_on}
use Rattle.node_service.proofs.Bots.{keep_here}
use Rattle.node_service.proofs.Seated.{sat_on}
use Rattle.node_service.proofs.seat_lines.tell_all.Goals as goal

pub loop-seat-preserved : goal.loop-seat-preserved
loop-seat-preserved g c = record {
  bots = keep_here c.loop-seat.invariant.bots c.tell_bot.ensures.bots;
  said = λ passed are. c.tell_bot.ensures.said passed (c.loop-seat.invariant.said passed are);
  waits = put_off_on c.args.is_apart _ _ _ c.loop-seat.invariant.waits c.tell_bot.ensures.waits;
  sat = sat_on _ _ _ c.loop-seat.invariant.sat c.tell_bot.ensures.sat;
  guests = c.tell_bot.ensures.guests ∙ c.loop-seat.invariant.guests;
}
