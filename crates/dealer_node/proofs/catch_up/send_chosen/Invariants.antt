use Rattle.std.proofs.Common.{◌≡◌, ◌*◌, ◌++◌, map}
use Rattle.node_rules.specs.Learning.{telling_from}
use Rattle.paxos_wire.specs.declared.limits.TheConstants.{MOST_SINGLE_FRAME}
use Rattle.dealer_node.specs.Rooms.{Grows}
use Rattle.dealer_node.specs.Turned.{framed}
use Rattle.dealer_node.specs.Fitting.{AreMessages}
use Rattle.dealer_node.proofs.catch_up.send_chosen.Given as goal

abbrev pub invariant-loop-step : goal.invariant-loop-step
invariant-loop-step l = record {
  texts : l.frames.texts ≡ l.fn.frames.texts ++ map framed (telling_from l.log.log l.to l.slot l.step);
  fits : AreMessages (telling_from l.log.log l.to l.slot l.step);
  grows : Grows l.fn.frames l.frames l.step (MOST_SINGLE_FRAME * l.step);
}
