use Rattle.std.proofs.Common.{◌≡◌, List, [], ◌∷◌, map, refl, ap, ◌∙◌, subst}
use Rattle.std.specs.Prelude.{Option, Some, None}
use Rattle.std.specs.Option.{option_map}
use Rattle.promise_store.specs.declared.disk.Disk.{Ghosts}
use Rattle.node_wires.specs.declared.wire.Wire.{Ghosts as OfWire}
use Rattle.dealer_node.specs.Nodes.{Node}
use Rattle.stations.specs.Stations.{Look}
use Rattle.stations.specs.Looking.{look_of}
use Rattle.stations.specs.Together.{StationsArePromised}
use Rattle.node_service.specs.declared.server.NodeServer.{NodeServer}
use Rattle.node_service.specs.Serving.{station_of, look_in}
use Rattle.node_service.proofs.laws.servers_are_promised.Goals as goal

module _ {D W : Type 0} {disk : Ghosts D} {wire : OfWire W} where
  -- servers are seen as their stations are
  same_look : (server : Option (NodeServer D W disk wire)) → option_map look_of (option_map station_of server) ≡ option_map look_in server
  same_look (Some server) = refl
  same_look None = refl

  same_looks : (servers : List (Option (NodeServer D W disk wire))) → map (option_map look_of) (map (option_map station_of) servers) ≡ map (option_map look_in) servers
  same_looks [] = refl
  same_looks (server ∷ servers) =
      ap (λ (m : List (Option (Look (Node D)))). option_map look_of (option_map station_of server) ∷ m) (same_looks servers)
      ∙ ap (λ (m : Option (Look (Node D))). m ∷ map (option_map look_in) servers) (same_look server)

pub returns : goal.returns
returns g c =
    subst (λ (m : List (Option (Look (Node _)))). StationsArePromised g.D.Disk m) (same_looks c.args._servers.now)
    (c.lists_of_stations_are_promised.ensures (map (option_map station_of) c.args._servers.now))
