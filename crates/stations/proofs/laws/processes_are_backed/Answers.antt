use Rattle.stations.proofs.Joining.{processes_are_backed}
use Rattle.stations.proofs.laws.processes_are_backed.Goals as goal

pub returns : goal.returns
returns c = processes_are_backed c.runs_are_backed.ensures
