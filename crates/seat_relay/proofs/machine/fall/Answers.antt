use Rattle.std.proofs.Common.{arith}
use Rattle.seat_relay.specs.Relaying.{fallen}
use Rattle.seat_relay.proofs.Links.{one_more}
use Rattle.seat_relay.proofs.machine.fall.Goals as goal

pub loop-link-preserved : goal.loop-link-preserved
loop-link-preserved c =
    one_more fallen c.args.links.now c.loop-link.links c.loop-link.link-index c.fallen.result (omega arith) c.loop-link.auto.links c.loop-link.invariant c.fallen.ensures
