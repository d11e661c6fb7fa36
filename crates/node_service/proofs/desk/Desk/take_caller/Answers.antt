use Rattle.std.proofs.Common.{refl}
use Rattle.node_service.proofs.Keeping.{kept_grown}
use Rattle.node_service.proofs.desk.Desk.take_caller.Goals as goal

pub returns : goal.returns
returns g c = kept_grown g.W.Wire refl refl refl refl refl refl c.take_caller.ensures.grew c.take_caller.ensures.hears c.take_caller.ensures.seats c.take_caller.ensures.log c.take_caller.ensures.writing
