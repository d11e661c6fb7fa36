use Rattle.std.proofs.Common.{◌≤◌, subst, ap}
use Rattle.dealer_kind.specs.Plans.{Plan}
use Rattle.stations.specs.Looking.{look_of}
use Rattle.node_service.specs.Logging.{HasOneLog}
use Rattle.node_service.proofs.SinceStart.{one_log}
use Rattle.node_service.proofs.server.NodeServer.limits.Goals as goal

pub returns : goal.returns
returns g c =
    subst (HasOneLog g.D.Disk) (ap look_of c.station-station.ensures)
    (one_log (record { goes_on = c.fronts_go_on.ensures; adds = c.commands_add_to_the_log.ensures }) g.D.Disk c.logs_begin_with_their_header.ensures (look_of c.station-station.result.now) c.limits.ensures
    (subst (λ (p : Plan). 1 ≤ p.setting.title.hands) c.config.ensures c.limits-2.ensures.within.least))
