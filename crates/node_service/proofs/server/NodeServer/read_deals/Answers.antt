use Rattle.std.proofs.Common.{subst, sym, ap, ◌∙◌}
use Rattle.dealer_kind.specs.Plans.{Plan, IsSetting}
use Rattle.dealer_node.specs.Seeing.{table_in}
use Rattle.stations.specs.Looking.{look_of}
use Rattle.node_service.specs.Logging.{HasOneLog, IsAcceptedOver}
use Rattle.node_service.proofs.Accepted.{is_accepted}
use Rattle.node_service.proofs.server.NodeServer.read_deals.Goals as goal

pub returns : goal.returns
returns g c =
    subst (IsAcceptedOver g.D.Disk) (ap look_of c.station-station.ensures)
    (is_accepted g.D.Disk c.hands_come_of_commands.ensures (look_of c.station-station.result.now) c.table-table.result.now c.limits-2.ensures
    (subst (λ (p : Plan). IsSetting p.setting) c.config.ensures c.limits-3.ensures.within)
    (subst (HasOneLog g.D.Disk) (sym (ap look_of c.station-station.ensures)) c.limits.ensures)
    (c.table-table.ensures.now ∙ ap table_in c.node.ensures)
    c.limits-4.ensures.hands c.read_deals.ensures)
