use Rattle.std.proofs.Common.{refl}
use Rattle.node_service.proofs.Keeping.{kept_still}
use Rattle.node_service.proofs.desk.Desk.forgive.Goals as goal

pub returns : goal.returns
returns g c = kept_still g.W.Wire refl refl refl refl refl refl refl c.forgive.ensures.stays c.forgive.ensures.hears
