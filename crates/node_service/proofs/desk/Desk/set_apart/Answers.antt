use Rattle.std.proofs.Common.{refl}
use Rattle.stations.specs.Looking.{look_of}
use Rattle.node_service.proofs.Apartness.{waits_moved}
use Rattle.node_service.proofs.Bots.{bots_still}
use Rattle.node_service.proofs.Keeping.{kept_told}
use Rattle.node_service.proofs.Seated.{sat_still}
use Rattle.node_service.proofs.desk.Desk.set_apart.Goals as goal

pub returns-clause-kept : goal.returns-clause-kept
returns-clause-kept g c =
    let old = c.args.self.now in
    let seats = old.seats.seats.items in
    kept_told g.W.Wire (waits_moved old.apart c.set.new.self seats c.set.ensures.moves) refl refl refl refl refl refl (bots_still (look_of old.member.station) seats) refl (λ passed are. are) (sat_still seats)
