use Rattle.std.proofs.Common.{inl, refl}
use Rattle.node_service.proofs.Keeping.{kept_asked}
use Rattle.node_service.proofs.desk.Desk.write_to_askers.Goals as goal

pub returns : goal.returns
returns g c = kept_asked g.W.Wire refl refl refl refl refl refl c.flush.ensures.others c.flush.ensures.answered (λ place within. inl (c.flush.ensures.lines place))
