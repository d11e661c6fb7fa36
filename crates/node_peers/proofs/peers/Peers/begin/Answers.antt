use Rattle.std.proofs.Common.{◌<◌, length, refl, arith}
use Rattle.std.proofs.lemmas.Grind.{common_steps}
use Rattle.node_peers.specs.Handing.{peer_at}
use Rattle.node_peers.proofs.Handing.{for_joined}
use Rattle.node_peers.proofs.peers.Peers.begin.Goals as goal

pub begin-requires : goal.begin-requires
begin-requires c =
    let within : c.in-Some.number < length c.args.self.now.peers.items = grind (arith, common_steps) in
    for_joined c.in-Some.number (peer_at c.args.self.now.lines.links.items c.args.place) c.args.self.now.lines.sent.items c.args.self.now.peers.items c.in-Some-get_mut.peer.now (c.if-not-is_at.ensures refl) within
    c.in-Some-get_mut.ensures.value c.args.self.now.handed
