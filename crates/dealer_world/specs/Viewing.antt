-- How a cluster is seen.
use Rattle.promise_store.specs.declared.disk.Disk.{Ghosts}
use Rattle.dealer_node.specs.Nodes.{Node}
use Rattle.dealer_world.specs.declared.cluster.Cluster.{Cluster}
use Rattle.dealer_world.specs.Stepping.{View}

-- a cluster as it is seen
abbrev pub view_of : {D : Type 0} {disk : Ghosts D} → Cluster D disk → View (Node D)
view_of cluster = record { config = cluster.config; opened = cluster.opened; nodes = cluster.nodes.items; all = cluster.recording.all; last = cluster.recording.last }
