use Rattle.stations.proofs.Joining.{processes_apply_the_chosen}
use Rattle.stations.proofs.laws.processes_apply_the_chosen.Goals as goal

pub returns : goal.returns
returns c = processes_apply_the_chosen c.runs_apply_the_chosen.ensures
