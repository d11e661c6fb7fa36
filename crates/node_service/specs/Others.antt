-- The other nodes that are listed.
use Rattle.std.specs.Prelude.{min, List, take}
use Rattle.clockwork.specs.declared.known.Peer.{Peer}
use Rattle.clockwork.specs.declared.limits.TheConstants.{MOST_PEERS}
use Rattle.node_service.specs.declared.peer_reports.Others.{Others}

abbrev pub listed : Others → List Peer
listed others = take (min others.count MOST_PEERS) others.all
