use Rattle.std.proofs.Common.{refl}
use Rattle.node_service.proofs.Keeping.{kept_still}
use Rattle.node_service.proofs.desk.Desk.note_promised.Goals as goal

pub returns-clause-kept : goal.returns-clause-kept
returns-clause-kept g c = kept_still g.W.Wire refl refl refl refl refl refl refl c.set_promised.ensures.stays c.set_promised.ensures.hears
