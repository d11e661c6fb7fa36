-- How a server is seen.
use Rattle.std.specs.Prelude.{ℕ, min, length, List, Option, false}
use Rattle.promise_store.specs.declared.disk.Disk.{Ghosts}
use Rattle.node_wires.specs.declared.wire.Wire.{Ghosts as OfWire}
use Rattle.paxos_wire.specs.declared.ballot.Ballot.{Ballot}
use Rattle.node_peers.specs.Promising.{promise_of}
use Rattle.dealer_node.specs.Nodes.{Node}
use Rattle.dealer_node.specs.declared.fault.NodeFault.{NodeFault}
use Rattle.stations.specs.declared.station.Station.{Station}
use Rattle.stations.specs.Stations.{Look}
use Rattle.stations.specs.Looking.{look_of}
use Rattle.node_service.specs.Ending.{outcome_of}
use Rattle.node_service.specs.declared.limits.TheConstants.{NODES}
use Rattle.node_service.specs.declared.outcome.Outcome.{Outcome}
use Rattle.node_service.specs.declared.server_notice.ServerNotice.{ServerNotice}
use Rattle.node_service.specs.declared.server.NodeServer.{NodeServer}
use Rattle.node_service.specs.Desks.{served_by}
use Rattle.node_service.specs.Served.{Served}

module _ {D W : Type 0} {disk : Ghosts D} {wire : OfWire W} where
  abbrev pub served_of : NodeServer D W disk wire → Served (Node D)
  served_of server = served_by wire server.desk

  abbrev pub station_of : NodeServer D W disk wire → Station D disk
  station_of server = server.desk.member.station

  -- the fault that ends the process, by which a call of its node was answered
  abbrev pub fault_in : NodeServer D W disk wire → Option NodeFault
  fault_in server = server.desk.member.fault

  -- what ends the process, by what was noted of its peers, its node and its log
  abbrev pub ending_in : NodeServer D W disk wire → Outcome
  ending_in server = outcome_of server.is_foreign server.desk.company.is_replaced server.desk.company.is_older server.desk.company.is_life_lost (fault_in server) server.desk.log_failed false

  -- what is left to do, as it stands: its node may be down besides
  abbrev pub outcome_in : NodeServer D W disk wire → Outcome
  outcome_in server =
      outcome_of server.is_foreign server.desk.company.is_replaced server.desk.company.is_older server.desk.company.is_life_lost (fault_in server) server.desk.log_failed server.is_over

  -- how many nodes the match has, as many as there may be at most
  abbrev pub nodes_of : NodeServer D W disk wire → ℕ
  nodes_of server = min (length (look_of (station_of server)).config.sources) NODES

  abbrev pub look_in : NodeServer D W disk wire → Look (Node D)
  look_in server = look_of (station_of server)

  -- the greatest ballot that a peer is known to have promised
  abbrev pub heard_in : NodeServer D W disk wire → ℕ → Option Ballot
  heard_in server peer = promise_of server.desk.company.peers peer

  -- what is to be told, the next first
  abbrev pub told_in : NodeServer D W disk wire → List ServerNotice
  told_in server = server.desk.company.told.items
