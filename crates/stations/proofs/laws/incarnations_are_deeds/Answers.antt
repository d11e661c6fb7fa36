use Rattle.stations.proofs.Incarnations.{incarnations_are_deeds}
use Rattle.stations.proofs.laws.incarnations_are_deeds.Goals as goal

pub returns : goal.returns
returns g c = incarnations_are_deeds g.D.Disk c.deaths_are_deeds.ensures.rest c.deaths_are_deeds.ensures.inside
