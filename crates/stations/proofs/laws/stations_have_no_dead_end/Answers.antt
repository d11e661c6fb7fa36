use Rattle.stations.proofs.Moving.{stations_have_no_dead_end}
use Rattle.stations.proofs.laws.stations_have_no_dead_end.Goals as goal

pub returns : goal.returns
returns g c = stations_have_no_dead_end g.D.Disk c.no_dead_end.ensures c.sound_events_are_taken.ensures
