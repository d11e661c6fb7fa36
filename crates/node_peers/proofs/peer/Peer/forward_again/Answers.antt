use Rattle.std.proofs.Common.{refl, ap, ◌∙◌}
use Rattle.node_links.specs.declared.forwarded.Forwarded.{Forwarded}
use Rattle.node_links.specs.declared.limits.TheConstants.{WAITING}
use Rattle.node_peers.proofs.Handing.{goes_forwarded}
use Rattle.node_peers.proofs.peer.Peer.forward_again.Goals as goal

pub returns-in-Some : goal.returns-in-Some
returns-in-Some c = goes_forwarded c.args.self.now _ c.in-Some.frame.now WAITING c.put_again.result (c.in-Some.ensures ∙ ap (λ (f : Forwarded). f.last) c.go_again.ensures) c.put_again.ensures refl (ap (λ (f : Forwarded). f.last) c.go_again.ensures) refl refl
