use Rattle.node_peers.proofs.Growing.{grew_on}
use Rattle.node_peers.proofs.peers.Peers.read_in.Goals as goal

pub returns : goal.returns
returns g c =
    grew_on c.args.self.now.lines c.read_all.new.self.lines c.hear_peers.new.self.lines (g.W.Wire.passed c.args.wire.now) (g.W.Wire.passed c.read_all.new.wire) (g.W.Wire.passed c.hear_peers.new.wire)
    c.read_all.ensures c.hear_peers.ensures
