use Rattle.node_peers.proofs.Growing.{grew_on}
use Rattle.node_peers.proofs.peers.Peers.take_all.Goals as goal

pub returns : goal.returns
returns g c =
    grew_on c.args.self.now.lines c.hear_all.new.self.lines c.end_in.new.self.lines (g.W.Wire.passed c.args.wire.now) (g.W.Wire.passed c.hear_all.new.wire) (g.W.Wire.passed c.end_in.new.wire)
    (grew_on c.args.self.now.lines c.read_in.new.self.lines c.hear_all.new.self.lines (g.W.Wire.passed c.args.wire.now) (g.W.Wire.passed c.read_in.new.wire) (g.W.Wire.passed c.hear_all.new.wire) c.read_in.ensures c.hear_all.ensures)
    c.end_in.ensures
