use Rattle.node_peers.proofs.Handing.{back_on, handed_on}
use Rattle.node_peers.proofs.peers.Peers.tell.Goals as goal

pub invariant_of-self : goal.invariant_of-self
invariant_of-self c = record {
  handed =
      handed_on c.args.self.now.lines.sent.items c.args.self.now.peers.items c.tell_lives.new.peers.items
      (back_on c.args.self.now.peers.items c.tell_all.new.peers.items c.tell_lives.new.peers.items c.tell_all.ensures c.tell_lives.ensures.back) c.args.self.now.handed;
}
