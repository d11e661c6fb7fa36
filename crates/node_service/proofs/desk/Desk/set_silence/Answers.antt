use Rattle.std.proofs.Common.{refl}
use Rattle.node_service.proofs.Keeping.{kept_still}
use Rattle.node_service.proofs.desk.Desk.set_silence.Goals as goal

pub returns : goal.returns
returns g c = kept_still g.W.Wire refl refl refl refl refl refl refl c.set_silence.ensures.stays c.set_silence.ensures.hears
