use Rattle.std.proofs.Common.{None, get_or}
use Rattle.node_peers.specs.Hearing.{talk_over}
use Rattle.node_peers.specs.Lines.{line_at}
use Rattle.node_peers.specs.Peering.{own_of, frames_of, passed_of}
use Rattle.node_peers.proofs.Speaking.{is_spoken}
use Rattle.node_peers.proofs.peers.Peers.speaks_its_own.Goals as goal

pub returns : goal.returns
returns c = λ place.
    let peers = c.args.self.now in
    is_spoken (own_of peers) (frames_of peers) (talk_over (passed_of peers) (line_at place)) (get_or peers.lines.links.items place None) (peers.lines.fits place).1
