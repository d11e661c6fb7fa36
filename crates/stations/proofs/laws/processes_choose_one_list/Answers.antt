use Rattle.stations.proofs.Joining.{processes_choose_one_list}
use Rattle.stations.proofs.laws.processes_choose_one_list.Goals as goal

pub returns : goal.returns
returns c = processes_choose_one_list c.runs_choose_one_list.ensures
