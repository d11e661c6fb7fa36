use Rattle.std.proofs.Common.{refl}
use Rattle.node_service.proofs.Apartness.{waits_changed}
use Rattle.node_service.proofs.Bots.{bots_changed}
use Rattle.node_service.proofs.Keeping.{kept_seated}
use Rattle.node_service.proofs.Seated.{sat_unless_gone}
use Rattle.node_service.proofs.desk.Desk.hang_up.Goals as goal

pub returns-clause-kept : goal.returns-clause-kept
returns-clause-kept g c =
    kept_seated g.W.Wire (waits_changed c.args.self.now.apart c.hang_up.result _ _ c.hang_up.ensures.sits) refl refl refl refl c.let_go.ensures.loosened (bots_changed _ c.hang_up.result _ _ c.hang_up.ensures.sits) c.hang_up.ensures.guests c.hang_up.ensures.log c.hang_up.ensures.seats
    c.hang_up.ensures.keeps c.hang_up.ensures.unsaid c.hang_up.ensures.said (sat_unless_gone c.args.seat _ _ c.hang_up.ensures.gone c.hang_up.ensures.others)
