use Rattle.std.proofs.Common.{refl}
use Rattle.node_links.specs.Frames.{frame_of}
use Rattle.node_peers.proofs.Sending.{put_sent}
use Rattle.node_peers.proofs.Handing.{goes_sent}
use Rattle.node_peers.proofs.peer.Peer.send.Goals as goal

pub returns-clause-sent : goal.returns-clause-sent
returns-clause-sent c = put_sent c.put.result (frame_of c.args.bytes.now) c.if-is_some.most c.args.bytes.now c.args.self.now.outbox c.put.new.self refl c.put.ensures

pub returns-clause-goes : goal.returns-clause-goes
returns-clause-goes c = goes_sent c.args.bytes.now (frame_of c.args.bytes.now) _ c.args.now c.put.result _ _ c.args.self.now _ refl c.put.ensures c.keep.ensures c.keep-2.ensures
