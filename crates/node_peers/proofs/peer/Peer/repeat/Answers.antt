use Rattle.std.proofs.Common.{refl, ap, ◌∙◌}
use Rattle.node_links.specs.declared.accepted.Accepted.{Accepted}
use Rattle.node_links.specs.Repeating.{copy_of}
use Rattle.node_links.specs.declared.limits.TheConstants.{WAITING}
use Rattle.node_peers.proofs.Handing.{goes_repeated}
use Rattle.node_peers.proofs.peer.Peer.repeat.Goals as goal

pub returns-in-Some-clause-goes : goal.returns-in-Some-clause-goes
returns-in-Some-clause-goes c = goes_repeated c.args.self.now _ c.in-Some.frame.now WAITING c.put_again.result (c.in-Some.ensures ∙ ap (λ (a : Accepted). copy_of a.last) c.go_again.ensures) c.put_again.ensures (ap (λ (a : Accepted). a.last) c.go_again.ensures) refl refl refl
