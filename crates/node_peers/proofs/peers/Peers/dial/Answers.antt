use Rattle.node_peers.proofs.Handing.{back_on, handed_on}
use Rattle.node_peers.proofs.peers.Peers.dial.Goals as goal

pub invariant_of-self : goal.invariant_of-self
invariant_of-self g c = record {
  handed =
      handed_on c.call-has_begun.new.self.lines.sent.items c.call-has_begun.new.self.peers.items c.end_dial.new.peers.items
      (back_on c.call-has_begun.new.self.peers.items c.begin_dial.new.peers.items c.end_dial.new.peers.items c.begin_dial.ensures c.end_dial.ensures.back) c.call-has_begun.new.self.handed;
}
