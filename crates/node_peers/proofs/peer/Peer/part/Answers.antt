use Rattle.std.proofs.Common.{refl, ap, ◌∙◌}
use Rattle.node_links.specs.declared.limits.TheConstants.{KEPT}
use Rattle.node_links.specs.Waits.{Waits}
use Rattle.node_links.specs.Waiting.{newest}
use Rattle.node_peers.proofs.Handing.{goes_newest}
use Rattle.node_peers.proofs.peer.Peer.part.Goals as goal

pub returns-clause-back : goal.returns-clause-back
returns-clause-back c =
    goes_newest c.args.self.now _ KEPT (ap (λ (w : Waits). w.frames) c.keep_newest.ensures ∙ ap (λ (w : Waits). newest KEPT w.frames) c.forget_all_but_frames.ensures) refl refl refl refl
