use Rattle.stations.proofs.Together.{stations_are_promised}
use Rattle.stations.proofs.laws.lists_of_stations_are_promised.Goals as goal

pub returns : goal.returns
returns g c =
    stations_are_promised g.D.Disk c.incarnations_are_deeds.ensures c.images_are_seen.ensures c.events_are_calls.ensures.conflict c.processes_show_one_list.ensures
    c.processes_are_backed.ensures c.processes_never_conflict.ensures c.processes_apply_the_chosen.ensures
