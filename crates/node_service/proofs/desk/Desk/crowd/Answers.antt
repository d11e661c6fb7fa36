use Rattle.std.proofs.Common.{◌≡◌, List, refl, sym, subst}
use Rattle.stations.specs.Looking.{look_of}
use Rattle.node_seats.specs.declared.seat.Seat.{Seat}
use Rattle.node_seats.specs.Telling.{AreSaid}
use Rattle.node_service.specs.Apartness.{PutsOffApart}
use Rattle.node_service.specs.Bots.{KeepBots}
use Rattle.node_service.proofs.Apartness.{waits_same}
use Rattle.node_service.proofs.Bots.{bots_still}
use Rattle.node_service.specs.Seated.{SatBefore}
use Rattle.node_service.proofs.Keeping.{kept_told}
use Rattle.node_service.proofs.Seated.{sat_still}
use Rattle.node_service.proofs.desk.Desk.crowd.Goals as goal

pub returns : goal.returns
returns g c =
    let old = c.args.self.now in
    let before = old.seats.seats.items in
    let look = look_of old.member.station in
    let same : c.crowd.new.self.seats.items ≡ before = cc (c.crowd.ensures.seats) in
    kept_told g.W.Wire (subst (λ (seats : List Seat). PutsOffApart old.apart old.apart before seats) (sym same) (waits_same old.apart before)) refl refl refl refl refl refl
    (subst (λ (seats : List Seat). KeepBots look look before seats) (sym same) (bots_still look before)) c.crowd.ensures.guests (λ passed are. subst (λ (seats : List Seat). AreSaid passed seats) (sym same) are)
    (subst (λ (seats : List Seat). SatBefore before seats) (sym same) (sat_still before))
