use Rattle.stations.proofs.station.Station.limits.Goals as goal

pub returns : goal.returns
returns g c = let self = c.args.self.now in record { here = self.here; at_place = self.at_place; newest = self.newest; true_to = self.true_to; tables = self.tables; works = self.works }
