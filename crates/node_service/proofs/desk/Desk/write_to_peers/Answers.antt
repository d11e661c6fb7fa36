use Rattle.std.proofs.Common.{refl}
use Rattle.node_service.proofs.Keeping.{kept_grown}
use Rattle.node_service.proofs.desk.Desk.write_to_peers.Goals as goal

pub returns : goal.returns
returns g c = kept_grown g.W.Wire refl refl refl refl refl refl c.speak.ensures.grew c.speak.ensures.hears c.speak.ensures.seats c.speak.ensures.log c.speak.ensures.writing
