use Rattle.std.proofs.Common.{refl, ap}
use Rattle.node_links.specs.declared.forwarded.Forwarded.{Forwarded}
use Rattle.node_peers.proofs.Handing.{goes_forgotten}
use Rattle.node_peers.proofs.peer.Peer.note_front.Goals as goal

pub returns : goal.returns
returns c = goes_forgotten c.args.self.now _ refl refl (ap (λ (f : Forwarded). f.last) c.forget.ensures) refl refl
