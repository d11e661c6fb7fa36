use Rattle.std.proofs.Common.{refl}
use Rattle.node_service.proofs.Keeping.{kept_grown}
use Rattle.node_service.proofs.desk.Desk.hear.Goals as goal

pub returns : goal.returns
returns g c = kept_grown g.W.Wire refl refl refl refl refl refl c.hear.ensures.grew c.hear.ensures.hears c.hear.ensures.seats c.hear.ensures.log c.hear.ensures.writing
