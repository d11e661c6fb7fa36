-- How a station is seen.
use Rattle.promise_store.specs.declared.disk.Disk.{Ghosts}
use Rattle.dealer_node.specs.Nodes.{Node}
use Rattle.stations.specs.declared.station.Station.{Station}
use Rattle.stations.specs.Stations.{Look}

abbrev pub look_of : {D : Type 0} {disk : Ghosts D} → Station D disk → Look (Node D)
look_of station = record { config = station.config; number = station.number; node = station.node; deeds = station.deeds.items; moments = station.moments.items }
