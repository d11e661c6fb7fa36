use Rattle.stations.proofs.laws.stations_are_promised.Goals as goal

pub returns : goal.returns
returns g c = c.lists_of_stations_are_promised.ensures c.args._stations.now
