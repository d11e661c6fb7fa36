use Rattle.std.proofs.Common.{ℕ, List, [], ◌∷◌, refl, subst}
use Rattle.node_service.specs.Arriving.{OfPeer}
use Rattle.node_service.specs.Going.{Does}
use Rattle.node_service.specs.Serving.{served_of}
use Rattle.node_service.specs.Desks.{IsKept}
use Rattle.node_service.proofs.Keeping.{kept_only, as_it_was}
use Rattle.node_service.proofs.server.NodeServer.take_frame.Goals as goal

pub returns-in_default : goal.returns-in_default
returns-in_default g c =
    let desk = c.args.self.now.desk in
    let kept : IsKept g.W.Wire desk desk = as_it_was g.W.Wire refl in
    kept_only g.W.Wire refl kept

pub returns : goal.returns
returns g c = subst (λ (b : List ℕ). Does g.D.Disk (OfPeer c.args.from b ∷ []) (served_of c.args.self.now) (served_of c.call.new.self)) c.in-Ok.ensures.items c.call.ensures.goes
