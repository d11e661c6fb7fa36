use Rattle.stations.proofs.Tables.{tables_are_of_one_match}
use Rattle.stations.proofs.laws.tables_are_of_one_match.Goals as goal

pub returns : goal.returns
returns g c = tables_are_of_one_match g.D.Disk c.processes_apply_the_chosen.ensures c.processes_choose_one_list.ensures
